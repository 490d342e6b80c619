-- THE LAW OF APPLY: on the rows in use the tables that the code leaves are the plan's, in the definition's own words; what lies beyond stays.
use Prim.Native.Nat.{ℕ, ◌+◌, ◌≤◌, ◌<◌}
use mathlib.Core.Path.{◌≡◌, sym, ap, ◌∙◌}
use mathlib.Core.List.{List, [], ◌∷◌}
use native.Mathlib.Omega.{arith}
use lib.ListN.{length, take}
use Rattle.std.specs.Prelude.{IfSome}
use Rattle.definition.specs.Rows.{Table, Numbers}
use Rattle.definition.specs.Look.{Look}
use Rattle.definition.specs.Reader.{over, over_all}
use Rattle.plan.specs.declared.Plan.{Plan}
use Rattle.plan.specs.After.{words_after, targets_after, members_after, applied}
use Rattle.plan.specs.Decided.{one_there}
use Rattle.fill.specs.Fill.{texts_of}
use Rattle.fill.proofs.ShapeLaw.{Placed}
use Rattle.entries.proofs.Clean.{chart_clean, states_clean, transitions_clean, entries_clean, invokes_clean, datums_clean, parameters_clean}
use Rattle.tables.specs.Whole.{opens}
use Rattle.tables.proofs.Clean.{regions_clean, two_over, opened_clean, names_clean, open_regions_clean}
use Rattle.definition.specs.declared.Position.{Position}
use Rattle.rows.specs.Lent.{tables}
use Rattle.apply.specs.Applied.{applied_in}
use Rattle.apply.proofs.Laws.{joined}
use Rattle.apply.proofs.Wordless.{Unworded}

-- The members in use, with the event's words and targets.
abbrev pub listed : Look → Plan → ℕ → Table → Table
listed l p used ms = targets_after l p.members.targets (words_after l p.members.words (take used ms))

-- Every row has its place, and a shape is one without words.
pub record Fits (l : Look) (p : Plan) (n : Position) (m count used pending : ℕ) (a b c d e f i j ms o q r : Table) : Type 0 where
  pub placed : Placed l.fields
  pub wordless : Unworded l.tag p
  pub chart : 1 ≤ length a
  pub states : (count ≤ length b) × IfSome p.states (λ x. x.at.0 ≤ count)
  pub transitions : (n.transitions + one_there p.transitions.added ≤ length c) × IfSome p.transitions.altered (λ x. x.at ≤ n.transitions + one_there p.transitions.added)
  pub regions : n.regions + one_there p.regions.one + one_there p.regions.two ≤ length d
  pub entries : (n.entries + one_there p.entries.added ≤ length e) × IfSome p.entries.altered (λ x. x.at ≤ n.entries + one_there p.entries.added)
  pub invokes : (n.invokes + one_there p.invokes.added ≤ length f) × IfSome p.invokes.altered (λ x. x.at ≤ n.invokes + one_there p.invokes.added)
  pub datums : (n.datums + one_there p.datums.added ≤ length i) × IfSome p.datums.altered (λ x. x.at ≤ n.datums + one_there p.datums.added)
  pub parameters : n.parameters + one_there p.parameters ≤ length j
  pub listed_members : n.members ≡ length (listed l p used ms)
  pub members : length (listed l p used ms) + one_there p.members.one + one_there p.members.two ≤ length ms
  pub opened : (m ≡ 0 → n.opened < length o) × (n.opened ≤ length o)
  pub names : (m ≡ 0 → n.opened < length q) × (n.opened ≤ length q)
  pub kept : (p.pending.kept ≤ pending) × (pending ≤ length r)
  pub pushed : p.pending.kept + one_there p.pending.one + one_there p.pending.two ≤ length r

module _ (l : Look) (p : Plan) (n : Position) (m count used pending : ℕ) (a b c d e f i j ms o q r : Table) (N : Numbers) where
  -- What is in use of the tables.
  abbrev used_rows : List Table
  used_rows =
      take 1 a ∷ take count b ∷ take n.transitions c ∷ take n.regions d ∷ take n.entries e ∷ take n.invokes f ∷ take n.datums i ∷ take n.parameters j
      ∷ take used ms ∷ take n.opened o ∷ take n.opened q ∷ take pending r ∷ []

  pub applied_clean : N.tables ≡ used_rows → Fits l p n m count used pending a b c d e f i j ms o q r
      → applied_in (texts_of l.base l.fields) l.tag (opens m l.name_length l.name) n p a b c d e f i j (over (listed l p used ms) ms) o q r
      ≡ over_all (applied m l p N).tables (tables a b c d e f i j ms o q r)
  unfolding applied_in applied over_all members_after
  applied_clean z F =
      let two = two_over p.members.one p.members.two n.members (listed l p used ms) ms (sym F.listed_members) (omega (arith, F.listed_members, F.members)) in
      joined _ _ _ _ _ _ _ _ _ _ _ _ _ _ _ _ _ _ _ _ _ _ _ _
      (chart_clean l F.placed p.chart a F.chart)
      (states_clean l F.placed p.states count b F.wordless.states F.states.0 F.states.1)
      (transitions_clean l F.placed p.transitions n.transitions c F.wordless.transitions F.transitions.0 F.transitions.1)
      (regions_clean p.regions n.regions d F.regions)
      (entries_clean l F.placed p.entries n.entries e F.wordless.entries F.entries.0 F.entries.1)
      (invokes_clean l F.placed p.invokes n.invokes f F.wordless.invokes F.invokes.0 F.invokes.1)
      (datums_clean l F.placed p.datums n.datums i F.wordless.datums F.wordless.changed F.datums.0 F.datums.1)
      (parameters_clean l F.placed p.parameters n.parameters j F.parameters)
      two
      (opened_clean m n.opened l p.opened o F.opened.0 F.opened.1)
      (names_clean m n.opened l q F.names.0 F.names.1)
      (open_regions_clean p.pending pending r F.kept.0 F.kept.1 F.pushed)
      ∙ ap (λ (ts : List Table). over_all (applied m l p (record { tables = ts; current = N.current; ids = N.ids; docs = N.docs; names = N.names; charge = N.charge })).tables (tables a b c d e f i j ms o q r)) (sym z)
