-- THE LAW OF STAGE 1: what is parsed of an event tells the definition's look.
use Prim.Native.Nat.{ℕ, ◌+◌}
use mathlib.Core.Path.{◌≡◌, refl, sym, ap, ap₂, ◌∙◌}
use mathlib.Core.Bool.{Bool}
use mathlib.Core.List.{List}
use lib.ListN.{length}
use Rattle.definition.specs.Limits.{limits01}
use Rattle.definition.specs.declared.Position.{Position}
use Rattle.definition.specs.Rows.{Table, table_of, Numbers, innermost, current_state, parent_tag, root}
use Rattle.definition.specs.Look.{name_cells}
use Rattle.definition.specs.Reader.{first_no, position_of, rows_in}
use Rattle.definition.proofs.Finds.{cells_length}
use Rattle.names.specs.Names.{names_in}
use Rattle.names.proofs.NamesLaw.{names_law}
use Rattle.plain.specs.Plain.{Parsed, parsed_of}
use Rattle.plan.specs.declared.Heard.{Heard}
use Rattle.asked.specs.Asked.{asked_in, questions_by}
use Rattle.found.specs.Found.{found_in}
use Rattle.heard.proofs.FieldLaw.{heard_law}
use Rattle.asked.proofs.QuestionLaw.{questions_law}
use Rattle.found.proofs.FoundLaw.{found_law, innermost_law}
use Rattle.payload.proofs.PayloadLaw.{charge_law, made_law}
use Rattle.look.specs.Looked.{looked_in, looked_of, LooksRight}

pub looks_right : LooksRight
unfolding looked_of looked_in position_of rows_in current_state parent_tag root innermost
looks_right s e fit differ names data' =
    let n : Numbers = s.numbers in
    let B = names_law s e fit differ names in
    let H = heard_law s e (names_in s.text (name_cells (table_of n 1)) n.names (parsed_of e)).own (found_in s.text (table_of n 6) (current_state n) (parsed_of e)) B.own (found_law s e data') in
    record {
      no =
          ap₂ (λ (x : Heard) (b : Bool). first_no (questions_by x (asked_in (parsed_of e)) b (length (table_of n 9)) (parent_tag n) (root n))) H (innermost_law s e)
          ∙ sym (ap first_no (questions_law s e limits01 refl n));
      heard = H;
      refs = B.refs;
      new = ap (λ (k : ℕ). k + (names_in s.text (name_cells (table_of n 1)) n.names (parsed_of e)).new) (sym (cells_length (table_of n 1))) ∙ B.known;
      made = made_law s e;
      charge = charge_law s e;
    }

-- Of a position only the names drawn and the open elements are read.
pub looked_at : (cs ss ds xs ns : Table) (t : List ℕ) (p q : Position) (v : Parsed) → p.names ≡ q.names → p.opened ≡ q.opened → looked_in cs ss ds xs ns t p v ≡ looked_in cs ss ds xs ns t q v
unfolding looked_in
looked_at cs ss ds xs ns t p q v a b = rw (a, b)
