-- THE LAW OF WRITING: what is lent, and the position, after an accepted event.
use Prim.Native.Nat.{ℕ}
use mathlib.Core.Path.{◌≡◌, sym, ap, ◌∙◌, subst}
use mathlib.Core.Bool.{Bool}
use mathlib.Core.List.{List, [], ◌∷◌}
use lib.ListN.{length}
use Rattle.definition.specs.declared.Position.{Position}
use Rattle.definition.specs.Rows.{Table, Store}
use Rattle.definition.specs.Event.{Event}
use Rattle.definition.specs.Look.{one_if, look, kept_name, name_row}
use Rattle.definition.specs.Change.{entered}
use Rattle.definition.specs.Reader.{Lent, store_of, lent_after, over_all, position_of}
use Rattle.plain.specs.Plain.{Parsed, parsed_of}
use Rattle.plan.specs.declared.Plan.{Plan}
use Rattle.plan.specs.After.{move_of, applied}
use Rattle.payload.specs.Payload.{made_in, charge_in}
use Rattle.payload.proofs.PayloadLaw.{charge_law, made_law}
use Rattle.fill.specs.Fill.{texts_of}
use Rattle.std.specs.Prelude.{Option}
use Rattle.tables.specs.declared.OpenedName.{OpenedName}
use Rattle.tables.specs.Whole.{opens}
use Rattle.apply.specs.Applied.{rows_of, applied_in}
use Rattle.arena.specs.declared.Written.{Written}
use Rattle.arena.specs.Storing.{Storable, Stored}
use Rattle.whole.specs.Accepted.{Accepted, afterwards}
use Rattle.whole.specs.After.{position_by, InRange}
use Rattle.whole.proofs.Sizes.{Sized, sized}
use Rattle.whole.proofs.Fitting as F

module _ (p : Position) (a b c d f h i j k o y r : Table) (tx : List ℕ) (v : Parsed) (q : Plan)
    (A : Accepted (record { tables = a ∷ b ∷ c ∷ d ∷ f ∷ h ∷ i ∷ j ∷ k ∷ o ∷ y ∷ r ∷ []; text = tx }) p v q) where
  abbrev x : Lent
  x = record { tables = a ∷ b ∷ c ∷ d ∷ f ∷ h ∷ i ∷ j ∷ k ∷ o ∷ y ∷ r ∷ []; text = tx }

  abbrev e : Event
  e = A.event

  abbrev s : Store
  s = store_of x p

  Z : Sized p a b c d f h i j k o y r tx
  Z = sized p a b c d f h i j k o y r tx A.long A.order

  pub asks : (made : Bool) → made ≡ made_in v → Storable p v b k tx made q.members
  asks made em =
      subst (λ (z : Parsed). Storable p z b k tx made q.members) (sym A.parsed)
      (F.storable p a b c d f h i j k o y r tx e q Z A.within A.form A.differ A.plan made (em ∙ ap made_in A.parsed))

  module _ (made : Bool) (em : made ≡ made_in v) (charge : ℕ) (ec : charge ≡ charge_in v p.names) (st' ms' : Table) (tx' t' : List ℕ) (w : Written) (W : Stored p v b k tx q.members st' ms' tx' t' w) where
    W' : Stored p (parsed_of e) b k tx q.members st' ms' tx' t' w
    W' = subst (λ (z : Parsed). Stored p z b k tx q.members st' ms' tx' t' w) A.parsed W

    abbrev rows : Position
    rows = rows_of p w.members

    texts_are : t' ≡ texts_of (look s e).base (look s e).fields
    unfolding look
    texts_are = W'.by_key_lem ∙ F.texts_eq p a b c d f h i j k o y r tx e q Z A.within A.form A.differ A.plan

    -- An element's own name, where it opens.
    abbrev named : Parsed → Option OpenedName
    named v = opens (move_of v.kind) (length (kept_name v.tag v.name)) (name_row (kept_name v.tag v.name))

    pub tables_done : (ts : List Table) (o' : Option OpenedName) → o' ≡ named v → ts ≡ applied_in t' v.tag o' rows q a st' c d f h i j ms' o y r → record { tables = ts; text = tx' } ≡ lent_after x (afterwards s e q)
    unfolding lent_after afterwards parsed_of look
    tables_done ts o' eo et =
        let T = F.tables_after p a b c d f h i j k o y r tx e q Z A.within A.form A.differ A.plan A.first A.long st' ms' tx' t' w W' in
        let z : ts ≡ over_all (applied (move_of e.kind) (look s e) q (entered (look s e) s.numbers)).tables x.tables =
        et ∙ (λ m. applied_in (texts_are m) (A.parsed m).tag (eo m) rows q a st' c d f h i j ms' o y r)
        ∙ (λ m. applied_in (texts_of (look s e).base (look s e).fields) (parsed_of e).tag (named (A.parsed m)) rows q a st' c d f h i j ms' o y r)
        ∙ T in
        λ m. record { tables = z m; text = F.text_now p a b c d f h i j k o y r tx e q Z A.within A.form A.differ A.plan A.first A.long st' ms' tx' t' w W' m }

    pub position_done : (u : Position) → u ≡ position_by p q v.kind made charge w → u ≡ position_of (afterwards s e q)
    unfolding afterwards parsed_of look store_of
    position_done u eu =
        eu ∙ (λ m. position_by p q (A.parsed m).kind made ((ec ∙ ap (λ (z : Parsed). charge_in z p.names) A.parsed ∙ charge_law s e) m) w)
        ∙ F.position_now p a b c d f h i j k o y r tx e q Z A.within A.form A.differ A.plan A.first A.long st' ms' tx' t' w W' made (em ∙ ap made_in A.parsed)

    charge_is : charge ≡ (look s e).charge
    unfolding parsed_of look store_of
    charge_is = ec ∙ ap (λ (z : Parsed). charge_in z p.names) A.parsed ∙ charge_law s e

    pub in_range : InRange p q v.kind made charge w
    unfolding parsed_of look
    in_range =
        subst (λ (z : ℕ). InRange p q v.kind made z w) (sym charge_is) (
        subst (λ (z : Parsed). InRange p q z.kind made (look s e).charge w) (sym A.parsed)
        (F.in_range p a b c d f h i j k o y r tx e q Z A.within A.form A.differ A.plan A.first A.long st' ms' tx' t' w W' made (ap one_if (em ∙ ap made_in A.parsed) ∙ made_law s e)))
