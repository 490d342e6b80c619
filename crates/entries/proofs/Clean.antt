-- THE LAWS OF TABLES: on the rows in use the code's table is the plan's, with the texts of the look; what lies beyond stays.
use Prim.Native.Nat.{ℕ, zero, suc, ◌+◌, ◌≤◌}
use mathlib.Core.Path.{◌≡◌, refl, sym, ap, ◌∙◌}
use mathlib.Core.Bool.{Bool, true, false}
use mathlib.Core.List.{List, [], ◌∷◌}
use native.Mathlib.Omega.{arith}
use lib.ListN.{length, set, take}
use lib.Seq.{length-take-le}
use Rattle.std.specs.Prelude.{Option, Some, None, IfSome}
use Rattle.std.proofs.lemmas.Option.{IfSome_then}
use Rattle.definition.specs.Rows.{Row, Table}
use Rattle.definition.specs.Look.{Look}
use Rattle.definition.specs.Change.{alter_row}
use Rattle.definition.specs.Reader.{over}
use Rattle.definition.proofs.Changes.{alter_set}
use Rattle.plan.specs.declared.ChartPlan.{ChartPlan}
use Rattle.plan.specs.declared.StatePlan.{StatePlan}
use Rattle.plan.specs.declared.Shape.{Shape}
use Rattle.plan.specs.declared.Shape.TheVariants as S
use Rattle.plan.specs.declared.TransitionPlan.{TransitionPlan}
use Rattle.plan.specs.declared.EntryPlan.{EntryPlan}
use Rattle.plan.specs.declared.InvokePlan.{InvokePlan}
use Rattle.plan.specs.declared.DatumPlan.{DatumPlan}
use Rattle.plan.specs.declared.ParameterPlan.{ParameterPlan}
use Rattle.plan.specs.Ids.{shape_number}
use Rattle.plan.specs.After.{put, shaped, shaped_if, added_if, altered_if, rooted, chart_columns_after, chart_after, state_columns_after, state_after, states_after, transition_row, transitions_after, entry_row, recorded, entry_after, entries_after, invoke_row, invoke_after, invokes_after, datum_row, datum_after, datums_after, parameter_row, parameters_after}
use Rattle.plan.specs.Decided.{one_there}
use Rattle.plan.proofs.Over.{over_start, over_alter}
use Rattle.plan.proofs.Fifteen.{added_length}
use Rattle.fill.specs.Fill.{texts_of, is_words}
use Rattle.fill.proofs.ShapeLaw.{Placed, shapes_law}
use Rattle.tables.specs.Whole.{added_in}
use Rattle.tables.proofs.Clean.{added_over}
use Rattle.entries.specs.Whole.{texts_by, shaped_if_by, recorded_by, rooted_by, chart_row, state_row_by, new_transition, new_entry, old_entry, new_invoke, old_invoke, new_datum, old_datum, new_parameter, transitions_in, entries_in, invokes_in, datums_in, parameters_in, states_in, chart_in}

-- ---- tables

same_added : {A : Type 0} (f h : A → Row) (p : Option A) (n : ℕ) (t : Table) → IfSome p (λ x. f x ≡ h x) → added_in f p n t ≡ added_in h p n t
unfolding added_in
same_added f h None n t e = refl
same_added f h (Some x) n t e = ap (set t n) e

-- A row added.
pub added_clean : {A : Type 0} (f h : A → Row) (p : Option A) (n : ℕ) (t : Table) → IfSome p (λ x. f x ≡ h x) → n + one_there p ≤ length t → added_in f p n t ≡ over (added_if h p (take n t)) t
added_clean f h p n t e b = same_added f h p n t e ∙ ap (added_in h p n) (sym (over_start n t (omega arith))) ∙ added_over h p n (take n t) t (length-take-le n t (omega arith)) b

alter_same : (a : ℕ) (f h : Row → Row) (u : Table) → ((x : Row) → f x ≡ h x) → alter_row a f u ≡ alter_row a h u
unfolding alter_row
alter_same zero f h u e = refl
alter_same (suc a) f h [] e = refl
alter_same (suc zero) f h (r ∷ u) e = ap (λ (z : Row). z ∷ u) (e r)
alter_same (suc (suc a)) f h (r ∷ u) e = ap (λ (z : Table). r ∷ z) (alter_same (suc a) f h u e)

altered_over : (a : ℕ) (f : Row → Row) (u t : Table) → a ≤ length u → alter_row a f (over u t) ≡ over (alter_row a f u) t
unfolding alter_row
altered_over zero f u t h = refl
altered_over (suc a) f u t h = alter_set a f (over u t) ∙ over_alter a f u t (omega arith)

-- A row altered, of m rows in use.
pub altered_clean : {A : Type 0} (at : A → ℕ) (f h : A → Row → Row) (p : Option A) (m : ℕ) (u t : Table) → IfSome p (λ x. (r : Row) → f x r ≡ h x r) → length u ≡ m → IfSome p (λ x. at x ≤ m)
    → altered_if at f p (over u t) ≡ over (altered_if at h p u) t
unfolding altered_if
altered_clean at f h None m u t s e b = refl
altered_clean at f h (Some x) m u t s e b = altered_over (at x) (f x) u t (omega (arith, b, e)) ∙ ap (λ (z : Table). over z t) (alter_same (at x) (f x) (h x) u s)

-- A row added, then a row altered.
pub both_clean : {A B : Type 0} (f h : A → Row) (at : B → ℕ) (g k : B → Row → Row) (p : Option A) (q : Option B) (n : ℕ) (t : Table) → IfSome p (λ x. f x ≡ h x) → IfSome q (λ x. (r : Row) → g x r ≡ k x r)
    → n + one_there p ≤ length t → IfSome q (λ x. at x ≤ n + one_there p) → altered_if at g q (added_in f p n t) ≡ over (altered_if at k q (added_if h p (take n t))) t
both_clean f h at g k p q n t e s b c =
    ap (altered_if at g q) (added_clean f h p n t e b)
    ∙ altered_clean at g k q (n + one_there p) (added_if h p (take n t)) t s (added_length h p (take n t) ∙ ap (λ (z : ℕ). z + one_there p) (length-take-le n t (omega arith))) c

pub one_clean : {A : Type 0} (at : A → ℕ) (f h : A → Row → Row) (p : Option A) (n : ℕ) (t : Table) → IfSome p (λ x. (r : Row) → f x r ≡ h x r) → n ≤ length t → IfSome p (λ x. at x ≤ n)
    → altered_if at f p t ≡ over (altered_if at h p (take n t)) t
one_clean at f h p n t s b c = ap (altered_if at f p) (sym (over_start n t b)) ∙ altered_clean at f h p n (take n t) t s (length-take-le n t b) c

-- ---- rows, with the texts of a look

pub all : {A : Type 0} {P : A → Type 0} (p : Option A) → ((x : A) → P x) → IfSome p P
all None f = tt
all (Some x) f = f x

-- A shape is one of texts, and not of words.
abbrev pub Wordless : ℕ → Shape → Type 0
Wordless g h = is_words g (shape_number h) ≡ false

module _ (l : Look) (placed : Placed l.fields) where
  abbrev t : List ℕ
  t = texts_of l.base l.fields

  abbrev g : ℕ
  g = l.tag

  shape_same : (h : Shape) (r : Row) → Wordless g h → texts_by t g h r ≡ shaped l h r
  unfolding texts_by shaped
  shape_same h r w = shapes_law l 0 r placed g (shape_number h) w

  first_shape : Wordless g S.First
  unfolding is_words
  first_shape = refl

  shape_if_same : (h : Option Shape) (r : Row) → IfSome h (Wordless g) → shaped_if_by t g h r ≡ shaped_if l h r
  unfolding shaped_if_by shaped_if
  shape_if_same None r w = refl
  shape_if_same (Some h) r w = shape_same h r w

  record_same : (h : Shape) (c : ℕ) (b : Bool) (r : Row) → (b ≡ true → Wordless g h) → recorded_by t g h c b r ≡ recorded l h c b r
  unfolding recorded_by recorded
  record_same h c false r w = refl
  record_same h c true r w = ap (λ (x : Row). set x c 1) (shape_same h r (w refl))

  root_same : (s : Option ℕ) (r : Row) → rooted_by t g s r ≡ rooted l s r
  unfolding rooted_by rooted
  root_same None r = refl
  root_same (Some s) r = ap (λ (x : Row). set x 0 s) (shape_same S.First r first_shape)

  -- ---- each table

  pub chart_clean : (p : Option ChartPlan) (rs : Table) → 1 ≤ length rs → chart_in t g p rs ≡ over (chart_after l p (take 1 rs)) rs
  unfolding chart_in chart_after chart_row chart_columns_after
  chart_clean p rs b =
      let one : 1 ≤ 1 = omega arith in
      one_clean (λ x. 1) _ _ p 1 rs (all p (λ x r. ap (put 1 x.script) (root_same x.root (put 2 x.binding r)))) b (all p (λ x. one))

  pub states_clean : (p : Option StatePlan) (n : ℕ) (rs : Table) → IfSome p (λ x. IfSome x.texts (Wordless g)) → n ≤ length rs → IfSome p (λ x. x.at.0 ≤ n) → states_in t g p rs ≡ over (states_after l p (take n rs)) rs
  unfolding states_in states_after state_row_by state_after
  states_clean p n rs w b c = one_clean (λ x. x.at.0) _ _ p n rs (IfSome_then p w (λ x w r. ap (state_columns_after x) (shape_if_same x.texts r w))) b c

  pub transitions_clean : (p : TransitionPlan) (n : ℕ) (rs : Table) → IfSome p.added (λ x. IfSome x.texts (Wordless g)) → n + one_there p.added ≤ length rs → IfSome p.altered (λ x. x.at ≤ n + one_there p.added)
      → transitions_in t g p n rs ≡ over (transitions_after l p (take n rs)) rs
  unfolding transitions_in transitions_after new_transition transition_row
  transitions_clean p n rs w b c = both_clean _ _ (λ x. x.at) _ _ p.added p.altered n rs (IfSome_then p.added w (λ x w. shape_if_same x.texts _ w)) (all p.altered (λ x r. refl)) b c

  pub entries_clean : (p : EntryPlan) (n : ℕ) (rs : Table) → IfSome p.added (λ x. Wordless g x.shape) → n + one_there p.added ≤ length rs → IfSome p.altered (λ x. x.at ≤ n + one_there p.added)
      → entries_in t g p n rs ≡ over (entries_after l p (take n rs)) rs
  unfolding entries_in entries_after new_entry old_entry entry_row entry_after
  entries_clean p n rs w b c =
      both_clean _ _ (λ x. x.at) _ _ p.added p.altered n rs (IfSome_then p.added w (λ x w. shape_same x.shape _ w)) (all p.altered (λ x r. record_same S.First 5 x.filled (put 4 x.other r) (λ z. first_shape))) b c

  pub invokes_clean : (p : InvokePlan) (n : ℕ) (rs : Table) → IfSome p.altered (λ x. x.filled ≡ true → Wordless g S.Second) → n + one_there p.added ≤ length rs → IfSome p.altered (λ x. x.at ≤ n + one_there p.added)
      → invokes_in t g p n rs ≡ over (invokes_after l p (take n rs)) rs
  unfolding invokes_in invokes_after new_invoke old_invoke invoke_row invoke_after
  invokes_clean p n rs w b c =
      both_clean _ _ (λ x. x.at) _ _ p.added p.altered n rs (all p.added (λ x. shape_same S.First _ first_shape)) (IfSome_then p.altered w (λ x w r. record_same S.Second 3 x.filled (put 2 x.finalize r) w)) b c

  pub datums_clean : (p : DatumPlan) (n : ℕ) (rs : Table) → IfSome p.added (λ x. Wordless g x.shape) → IfSome p.altered (λ x. Wordless g x.shape) → n + one_there p.added ≤ length rs
      → IfSome p.altered (λ x. x.at ≤ n + one_there p.added) → datums_in t g p n rs ≡ over (datums_after l p (take n rs)) rs
  unfolding datums_in datums_after new_datum old_datum datum_row datum_after
  datums_clean p n rs w v b c =
      both_clean _ _ (λ x. x.at) _ _ p.added p.altered n rs (IfSome_then p.added w (λ x w. shape_same x.shape _ w)) (IfSome_then p.altered v (λ x w r. shape_same x.shape r w)) b c

  pub parameters_clean : (p : Option ParameterPlan) (n : ℕ) (rs : Table) → n + one_there p ≤ length rs → parameters_in t g p n rs ≡ over (parameters_after l p (take n rs)) rs
  unfolding parameters_in parameters_after new_parameter parameter_row
  parameters_clean p n rs b = added_clean _ _ p n rs (all p (λ x. shape_same S.First _ first_shape)) b
