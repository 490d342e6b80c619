-- What is known on the way: the look, what is seen and the decision are the definition's, and so is the number.
use Prim.Native.Nat.{ℕ, zero, suc, ◌≤◌, ◌<◌}
use mathlib.Core.Path.{◌≡◌, refl, sym, ap, ap₂, ◌∙◌, subst}
use mathlib.Core.Bool.{Bool, true, false}
use mathlib.Core.List.{List, [], ◌∷◌}
use mathlib.Core.Option.{some}
use native.Mathlib.Omega.{arith}
use borrow.Author.Rules.{rules}
use lib.ListN.{length, drop, take, length-drop}
use lib.Seq.{length-take-le}
use Rattle.definition.specs.declared.Position.{Position}
use Rattle.rows.specs.declared.lent.Tables.{Tables}
use Rattle.rows.specs.Lent.{seen_of, RowsInUse}
use Rattle.definition.specs.Limits.{limits01}
use Rattle.definition.specs.Rows.{Row, Table, cell_at, Numbers, Store, table_of}
use Rattle.definition.specs.Event.{Event, in_form, keys_differ}
use Rattle.definition.specs.Look.{Look, look, text_after, name_cells}
use Rattle.definition.specs.Rules.{names_lead}
use Rattle.definition.specs.Change.{entered}
use Rattle.definition.specs.Reader.{Lent, store_of, taken, counts, position_of, rows_in, Reply, reply_to, settled, Verdict, accept, reject, decided, questions, first_no}
use Rattle.definition.proofs.Base.{All}
use Rattle.kept.proofs.Base.{false_is_true}
use Rattle.kept.proofs.Facts.{rules_from}
use Rattle.definition.proofs.Places.{Fits}
use Rattle.definition.proofs.Lending.{chart_there}
use Rattle.names.specs.Names.{Inside}
use Rattle.plain.specs.Plain.{Parsed, parsed_of}
use Rattle.found.specs.Found.{ids}
use Rattle.look.specs.Looked.{Told, looked_in, looked_of, Tells}
use Rattle.look.proofs.LookLaw.{looks_right, looked_at}
use Rattle.plan.specs.declared.Heard.{Heard}
use Rattle.plan.specs.declared.Seen.{Seen}
use Rattle.plan.specs.declared.Plan.{Plan}
use Rattle.plan.specs.Heard.{heard}
use Rattle.plan.specs.Small.{Small, Counted, Brought}
use Rattle.plan.specs.Plan.{Planned, planned, idle, inside, keeping, counting}
use Rattle.plan.specs.Plans.{plan_by, plan_of}
use Rattle.plan.specs.After.{applied, move_of}
use Rattle.plan.specs.Decided.{stays_within, limited_p, decided_p}
use Rattle.planfacts.proofs.FactsOf.{decided_by_plan}
use Rattle.planfacts.proofs.Given.{names_inside, ids_inside, Few, few}
use Rattle.planfacts.proofs.Bounds.{look_charge, small, position_small, brought_small}
use Rattle.see.specs.View.{seen_by, Short}
use Rattle.see.proofs.All.{seen_in, plan_of_seen, small_seen}
use Rattle.definition.specs.Codes.{refusal_number}
use Rattle.definition.specs.declared.codes.Refusal.{Refusal}
use Rattle.std.proofs.Common.{Result, Ok, Err, IfOk, MatchResult}
use Rattle.decision.specs.Told.{told}
use Rattle.decide.specs.Within.{within}
use Rattle.decide.proofs.Counted.{counted}
use Rattle.whole.specs.Accepted.{Ready, afterwards}
use Rattle.whole.proofs.Sizes.{Sized, sized}
use Rattle.plan.specs.declared.Effect.{Effect}
use Rattle.settle.specs.Settled.{InForm, first_of, Takes, Refuses, Settles}

ids_all : (t : List ℕ) (rs : Table) → All (λ (r : Row). Fits (length t) (cell_at r 1).at (cell_at r 1).len) rs → All (Inside t) (ids rs)
unfolding ids
ids_all t [] h = tt
ids_all t (r ∷ rs) h = (h.0, ids_all t rs h.1)

-- ---- the number, of anything that was decided

same_plan : {x q : Plan} → ◌≡◌ {A = Result Plan Refusal} (Ok x) (Ok q) → x ≡ q
same_plan e = cc

refusal_is : (k : Refusal) → 0 < refusal_number k
refusal_is k = search rules

module _ (s : Store) (e : Event) (q : Plan) where
  -- By the questions' first no, the refusal and question 15.
  abbrev answer : ℕ → Reply
  answer t = elim t [ zero ↦ record { number = 0; store = afterwards s e q } | suc k ↦ record { number = suc k; store = s } ]

  abbrev verdict : ℕ → Planned → Verdict
  verdict t x = elim t [ zero ↦ limited_p limits01 (look s e) s.numbers x | suc k ↦ reject (suc k) ]

  plan_reply : (x : Plan) (b c : Bool) → b ≡ c → (b ≡ true → x ≡ q) → settled s (text_after s e) (elim c [ true ↦ accept (applied (move_of (look s e).kind) (look s e) x (entered (look s e) s.numbers)) | false ↦ reject 15 ]) ≡ answer (elim b [ true ↦ 0 | false ↦ 15 ])
  unfolding afterwards settled
  plan_reply x true true h z = ap (λ (y : Plan). settled s (text_after s e) (accept (applied (move_of (look s e).kind) (look s e) y (entered (look s e) s.numbers)))) (z refl)
  plan_reply x true false h z = false_is_true (sym h)
  plan_reply x false true h z = false_is_true h
  plan_reply x false false h z = refl

  refused_reply : (k : ℕ) → 0 < k → settled s (text_after s e) (reject k) ≡ answer k
  unfolding settled
  refused_reply zero h = absurd (omega arith)
  refused_reply (suc k) h = refl

  parts_reply : (t : ℕ) (g : Result Plan Refusal) (w : Plan → Bool) → (first_of t g w ≡ 0 → g ≡ Ok q) → ((x : Plan) → w x ≡ stays_within limits01 (look s e) x s.numbers) → settled s (text_after s e) (verdict t (told g)) ≡ answer (first_of t g w)
  unfolding limited_p first_of settled
  parts_reply zero (Ok x) w z h = plan_reply x (w x) (stays_within limits01 (look s e) x s.numbers) (h x) (λ f. same_plan (z (ap (λ (b : Bool). elim b [ true ↦ 0 | false ↦ 15 ]) f)))
  parts_reply zero (Err k) w z h = refused_reply (refusal_number k) (refusal_is k)
  parts_reply (suc k) g w z h = refl

  replies : (t : ℕ) (g : Result Plan Refusal) (w : Plan → Bool) → (first_of t g w ≡ 0 → g ≡ Ok q) → decided limits01 s.numbers (look s e) ≡ decided_p limits01 s.numbers (look s e) → first_no (questions limits01 s.numbers (look s e)) ≡ t → told g ≡ plan_of s.numbers (look s e)
      → ((x : Plan) → w x ≡ stays_within limits01 (look s e) x s.numbers) → settled s (text_after s e) (decided limits01 s.numbers (look s e)) ≡ answer (first_of t g w)
  unfolding decided_p
  replies t g w z d f r h = ap (settled s (text_after s e)) (d ∙ (λ z. verdict (f z) (sym r z))) ∙ parts_reply t g w z h

refusal_answer : (s : Store) (e : Event) (q : Plan) (k : ℕ) → 0 < k → answer s e q k ≡ record { number = k; store = s }
refusal_answer s e q zero h = absurd (omega arith)
refusal_answer s e q (suc k) h = refl

formed : (s : Store) (X : Reply) (b c : Bool) → b ≡ true → c ≡ true → ◌≡◌ {A = Reply} (elim b [ false ↦ record { number = 3; store = s } | true ↦ elim c [ false ↦ record { number = 4; store = s } | true ↦ X ] ]) X
formed s X true true f d = refl
formed s X true false f d = false_is_true d
formed s X false c f d = false_is_true f

form_reply : (s : Store) (e : Event) → in_form limits01 e ≡ true → keys_differ e.attributes ≡ true → reply_to limits01 s (some e) ≡ settled s (text_after s e) (decided limits01 s.numbers (look s e))
unfolding reply_to
form_reply s e f d = formed s (settled s (text_after s e) (decided limits01 s.numbers (look s e))) (in_form limits01 e) (keys_differ e.attributes) f d

within_zero : (b : Bool) → ◌≡◌ {A = ℕ} (elim b [ true ↦ 0 | false ↦ 15 ]) 0 → b ≡ true
within_zero true e = refl
within_zero false e = absurd (omega (arith, e))

-- Where the number is 0 there is a plan, and it stays within the limits.
first_zero : (no : ℕ) (g : Result Plan Refusal) (w : Plan → Bool) (q : Plan) → g ≡ Ok q → first_of no g w ≡ 0 → (no ≡ 0) × (w q ≡ true)
unfolding first_of
first_zero zero (Ok x) w q z e = (refl, ap w (sym (same_plan z)) ∙ within_zero (w x) e)
first_zero zero (Err k) w q z e = absurd (omega (arith, e, refusal_is k))
first_zero (suc k) g w q z e = absurd (omega (arith, e))

if_ok : (g : Result Plan Refusal) (P : Plan → Type 0) → ((x : Plan) → told g ≡ planned x → P x) → IfOk g P
if_ok (Ok x) P h = h x refl
if_ok (Err k) P h = tt

-- ---- on lent slices

module _ (xs : Tables) (p : Position) (v : Parsed) where
  abbrev a : Table
  a = xs.chart.now

  abbrev b : Table
  b = xs.states.now

  abbrev c : Table
  c = xs.transitions.now

  abbrev d : Table
  d = xs.regions.now

  abbrev f : Table
  f = xs.entries.now

  abbrev h : Table
  h = xs.invokes.now

  abbrev i : Table
  i = xs.datums.now

  abbrev j : Table
  j = xs.parameters.now

  abbrev k : Table
  k = xs.members.now

  abbrev o : Table
  o = xs.opened.now

  abbrev y : Table
  y = xs.open_names.now

  abbrev r : Table
  r = xs.open_regions.now

  abbrev tx : List ℕ
  tx = xs.text.now

  abbrev x : Lent
  x = seen_of xs

  abbrev s : Store
  s = store_of x p

  abbrev n : Numbers
  n = s.numbers

  module _ (A : InForm x p v) where
    abbrev Z : Sized p a b c d f h i j k o y r tx
    Z = sized p a b c d f h i j k o y r tx A.long A.order

    abbrev F : Few limits01 s
    F = few limits01 s Z.rules

    abbrev l : Look
    l = look s A.event

    at_position : position_of s ≡ p
    unfolding position_of rows_in store_of taken counts
    at_position = λ z.
        record {
          opened = length-take-le p.opened o (omega (arith, Z.opened.0, Z.opened.1)) z;
          states = length-take-le p.states b (omega (arith, Z.states.0, Z.states.1)) z;
          transitions = length-take-le p.transitions c (omega (arith, Z.transitions.0, Z.transitions.1)) z;
          regions = length-take-le p.regions d (omega (arith, Z.regions.0, Z.regions.1)) z;
          entries = length-take-le p.entries f (omega (arith, Z.entries.0, Z.entries.1)) z;
          invokes = length-take-le p.invokes h (omega (arith, Z.invokes.0, Z.invokes.1)) z;
          datums = length-take-le p.datums i (omega (arith, Z.datums.0, Z.datums.1)) z;
          parameters = length-take-le p.parameters j (omega (arith, Z.parameters.0, Z.parameters.1)) z;
          members = length-take-le p.members k (omega (arith, Z.members.0, Z.members.1)) z;
          open_regions = length-take-le p.open_regions r (omega (arith, Z.open_regions_lem.0, Z.open_regions_lem.1)) z;
          current = p.current;
          ids = p.ids;
          docs = p.docs;
          names = p.names;
          used = length-take-le p.used tx (omega (arith, Z.used, Z.text)) z;
          charge = p.charge;
        }

    -- WHAT `look` REQUIRES.
    pub few_enough : (b' i' : Table) (t' : List ℕ) → b' ≡ take p.states b → i' ≡ take p.datums i → t' ≡ take p.used tx
        → ((length b' ≤ limits01.states) × (length i' ≤ limits01.datums)) × ((p.names ≤ limits01.drawn) × (names_lead t' (name_cells b') 0 (name_cells b') ≡ true))
    unfolding store_of taken counts
    few_enough b' i' t' eb ei et =
        let lead : names_lead s.text (name_cells (table_of n 1)) 0 (name_cells (table_of n 1)) ≡ true = (rules_from limits01 s Z.rules).1.names in (
          (omega (arith, ap length eb, F.states), omega (arith, ap length ei, F.datums)),
          (F.names, ap₂ (λ (u : List ℕ) (rs : Table). names_lead u (name_cells rs) 0 (name_cells rs)) et eb ∙ lead),
        )

    -- WHAT `see` REQUIRES.
    pub short : (c' f' h' r' : Table) → c' ≡ take p.transitions c → f' ≡ take p.entries f → h' ≡ take p.invokes h → r' ≡ take p.open_regions r → Short c' f' h' r'
    unfolding store_of taken counts
    short c' f' h' r' ec ef eh er =
        (omega (arith, ap length ec, F.transitions), omega (arith, ap length ef, F.entries), omega (arith, ap length eh, F.invokes), omega (arith, ap length er, F.open_regions_lem))

    module _ (m : Told) (em : m ≡ looked_in (take 1 a) (take p.states b) (take p.datums i) (take p.opened o) (take p.opened y) (take p.used tx) p v) where
      tells : Tells s l m
      unfolding looked_of store_of taken counts position_of
      tells =
          subst (λ (z : Told). Tells s l z)
          (sym (em ∙ looked_at (take 1 a) (take p.states b) (take p.datums i) (take p.opened o) (take p.opened y) (take p.used tx) p (position_of s) v refl (sym (ap (λ (z : Position). z.opened) at_position))))
          (subst (λ (z : Parsed). Tells s l (looked_of s z)) (sym A.parsed)
          (looks_right s A.event A.form A.differ (names_inside limits01 s Z.rules) (ids_all s.text (table_of n 6) (ids_inside limits01 s Z.rules))))

      new_is : m.new ≡ length (drop (length (table_of n 1)) l.known)
      new_is = omega (arith, tells.new, length-drop (length (table_of n 1)) l.known)

      pub charge_small : m.charge < 65536
      charge_small = omega (arith, tells.charge, look_charge s A.event Z.rules A.form)

      kinds : v.kind ≡ l.kind
      unfolding parsed_of look
      kinds = ap (λ (z : Parsed). z.kind) A.parsed

      tags : v.tag ≡ l.tag
      unfolding parsed_of look
      tags = ap (λ (z : Parsed). z.tag) A.parsed

      module _ (u : Seen) (eu : u ≡ seen_by v.kind v.tag m.heard.own.0 p (take 1 a) (take p.states b) (take p.transitions c) (take p.entries f) (take p.invokes h) (take p.members k) (take p.opened o) (take p.open_regions r)) where
        sees : u ≡ seen_in s l
        unfolding store_of taken counts heard
        sees = eu ∙ (λ z. seen_by (kinds z) (tags z) (tells.heard z).own.0 (sym at_position z) (take 1 a) (take p.states b) (take p.transitions c) (take p.entries f) (take p.invokes h) (take p.members k) (take p.opened o) (take p.open_regions r))

        -- WHAT `decide` REQUIRES.
        pub small_enough : Small u m.heard
        small_enough = subst (λ (z : Seen). Small z m.heard) (sym sees) (subst (λ (z : Heard). Small (seen_in s l) z) (sym tells.heard) (small_seen s l (small s A.event Z.rules A.form)))

        module _ (g : Result Plan Refusal) (eg : told g ≡ plan_by v.kind v.tag u m.heard) where
          plans : told g ≡ plan_of n l
          unfolding heard
          plans = eg ∙ ((λ z. plan_by (kinds z) (tags z) (sees z) (tells.heard z)) ∙ plan_of_seen s l)

          -- WHAT QUESTION 15 REQUIRES.
          pub brings : IfOk g (λ q. Counted p × Brought m.refs m.new m.charge q)
          brings = if_ok g _ (λ q e. (
            subst Counted at_position (position_small s A.event Z.rules A.form),
            subst (λ (z : ℕ). Brought z m.new m.charge q) (sym tells.refs) (
                subst (λ (z : ℕ). Brought (length l.refs) z m.charge q) (sym new_is) (
                subst (λ (z : ℕ). Brought (length l.refs) (length (drop (length (table_of n 1)) l.known)) z q) (sym tells.charge)
                (brought_small s A.event Z.rules A.form q (sym plans ∙ e)))),
          ))

          fifteen : (q : Plan) → within limits01 p m.refs m.new m.made m.charge q ≡ stays_within limits01 l q n
          fifteen q = (λ z. within limits01 (sym at_position z) (tells.refs z) (new_is z) m.made (tells.charge z) q) ∙ counted limits01 s l m.made q F.chart tells.made

          abbrev asked : ℕ
          asked = first_of m.no g (λ q. within limits01 p m.refs m.new m.made m.charge q)

          reply : (q : Plan) → (asked ≡ 0 → g ≡ Ok q) → reply_to limits01 s (some A.event) ≡ answer s A.event q asked
          reply q eq =
              form_reply s A.event A.form A.differ
              ∙ replies s A.event q m.no g (λ x. within limits01 p m.refs m.new m.made m.charge x) eq
              (decided_by_plan limits01 s A.event Z.rules (chart_there limits01 x p A.long)) (sym tells.no) plans fifteen

          pub accepts : (q : Plan) → asked ≡ 0 → g ≡ Ok q → reply_to limits01 s (some A.event) ≡ record { number = 0; store = afterwards s A.event q }
          accepts q z eq = reply q (λ w. eq) ∙ ap (answer s A.event q) z

          pub refuses : (k : Refusal) → refusal_number k ≡ asked → reply_to limits01 s (some A.event) ≡ record { number = refusal_number k; store = s }
          refuses k e =
              let q : Plan = idle (inside 0 0) (keeping 0) (counting 0 0 0) in
              reply q (λ w. absurd (omega (arith, e, w, refusal_is k))) ∙ ap (answer s A.event q) (sym e) ∙ refusal_answer s A.event q (refusal_number k) (refusal_is k)

          pub ready : (q : Plan) → asked ≡ 0 → g ≡ Ok q → Ready x p v q m.made m.charge
          unfolding looked_in
          ready q z e =
              let O = first_zero m.no g (λ x. within limits01 p m.refs m.new m.made m.charge x) q e z in
              record {
                accepted =
                    record {
                      event = A.event;
                      parsed = A.parsed;
                      form = A.form;
                      differ = A.differ;
                      long = A.long;
                      order = A.order;
                      first = sym tells.no ∙ O.0;
                      plan = sym plans ∙ ap told e;
                      within = sym (fifteen q) ∙ O.1;
                    };
                makes = ap (λ (z : Told). z.made) em;
                takes = ap (λ (z : Told). z.charge) em;
              }

  module _ (m : Told) (em : m ≡ looked_in (take 1 a) (take p.states b) (take p.datums i) (take p.opened o) (take p.opened y) (take p.used tx) p v)
      (u : Seen) (eu : u ≡ seen_by v.kind v.tag m.heard.own.0 p (take 1 a) (take p.states b) (take p.transitions c) (take p.entries f) (take p.invokes h) (take p.members k) (take p.opened o) (take p.open_regions r))
      (g : Result Plan Refusal) (eg : told g ≡ plan_by v.kind v.tag u m.heard) where
    abbrev number : ℕ
    number = first_of m.no g (λ x. within limits01 p m.refs m.new m.made m.charge x)

    takes : (f : Effect) → number ≡ 0 → g ≡ Ok f.plan.now → f.made ≡ m.made → f.charge ≡ m.charge → Takes x p v f
    unfolding ready
    takes f z e made charge =
        record {
          reply = λ A. accepts A m em u eu g eg f.plan.now z e;
          ready = λ A. (
              let R : Ready x p v f.plan.now m.made m.charge = ready A m em u eu g eg f.plan.now z e in record { accepted = R.accepted; makes = made ∙ R.makes; takes = charge ∙ R.takes }
              );
          same = λ A. refl;
        }

    refused : (k : Refusal) → refusal_number k ≡ number → Refuses x p v k
    refused k e A = refuses A m em u eu g eg k e

    -- What is answered: by the first no, for an accepted event and for each refusal.
    pub settles : (r : Result Effect Refusal) → MatchResult r (λ f. (number ≡ 0) × ((g ≡ Ok f.plan.now) × ((f.made ≡ m.made) × (f.charge ≡ m.charge)))) (λ k. refusal_number k ≡ number) → Settles x p v r
    settles (Ok f) h = takes f h.0 h.1.0 h.1.1.0 h.1.1.1
    settles (Err k) h = refused k h

-- ---- by the numbers and the rows in use, as they are handed on

pub planned_by : (q g : ℕ) (u : Seen) (w : Heard) {kind tag : ℕ} {x : Planned} → kind ≡ q → tag ≡ g → x ≡ plan_by kind tag u w → x ≡ plan_by q g u w
planned_by q g u w ek et e = e ∙ (λ z. plan_by (ek z) (et z) u w)

module _ {xs : Tables} {p : Position} {us : Tables} (U : RowsInUse xs p us) where
  pub looked : {m : Told} (v : Parsed) → m ≡ looked_in us.chart.now us.states.now us.datums.now us.opened.now us.open_names.now us.text.now p v
      → m ≡ looked_in (take 1 xs.chart.now) (take p.states xs.states.now) (take p.datums xs.datums.now) (take p.opened xs.opened.now) (take p.opened xs.open_names.now) (take p.used xs.text.now) p v
  looked v e = e ∙ (λ z. looked_in (U.chart z) (U.states z) (U.datums z) (U.opened z) (U.open_names z) (U.text z) p v)

  pub seen : (q g w : ℕ) {kind tag : ℕ} {u : Seen} → kind ≡ q → tag ≡ g → u ≡ seen_by kind tag w p us.chart.now us.states.now us.transitions.now us.entries.now us.invokes.now us.members.now us.opened.now us.open_regions.now
      → u ≡ seen_by q g w p (take 1 xs.chart.now) (take p.states xs.states.now) (take p.transitions xs.transitions.now) (take p.entries xs.entries.now) (take p.invokes xs.invokes.now) (take p.members xs.members.now) (take p.opened xs.opened.now) (take p.open_regions xs.open_regions.now)
  seen q g w ek et e = e ∙ (λ z. seen_by (ek z) (et z) w p (U.chart z) (U.states z) (U.transitions z) (U.entries z) (U.invokes z) (U.members z) (U.opened z) (U.open_regions z))
