-- Classes that go by a code: which one a kind of entry, an owner or a list chooses.
use mathlib.Core.Path.{◌≡◌, refl}
use mathlib.Core.Logic.{◌⊎◌, inl, inr}
use mathlib.Core.List.{[]}
use Prim.Native.Nat.{ℕ, zero, suc, ◌≤◌}
use native.Mathlib.Omega.{arith}
use lib.ListN.{length, get_or, get_or-eq_default}
use Rattle.definition.specs.Rows.{Class, free, above, row, existing, spare, choices}
use Rattle.definition.specs.Codes.{entry_number, list_number}
use Rattle.definition.specs.declared.codes.EntryKind.{EntryKind}
use Rattle.definition.specs.declared.codes.EntryKind.TheVariants as E
use Rattle.definition.specs.declared.codes.ListKind.{ListKind}
use Rattle.definition.specs.declared.codes.ListKind.TheVariants as L

abbrev pub class_by : ℕ → ℕ → Class
class_by h v = get_or (get_or choices h []) v free

-- A code that is no kind's is free.
pub free_past : (h v : ℕ) → (1 ≤ v → length (get_or choices h []) ≤ v) → class_by h 0 ≡ free → class_by h v ≡ free
free_past h zero f e = e
free_past h (suc v) f e = get_or-eq_default (get_or choices h []) free (f (omega arith))

pub content_above : (k : EntryKind) → (k ≡ E.If) ⊎ (k ≡ E.Foreach) → class_by 0 (entry_number k) ≡ above
unfolding choices
content_above k (inl e) = rw e refl
content_above k (inr e) = rw e refl

pub content_row : (k : EntryKind) → (k ≡ E.If → ⊥) → (k ≡ E.Foreach → ⊥) → class_by 0 (entry_number k) ≡ row 3
unfolding choices
content_row E.If n0 n1 = let z : ⊥ = n0 refl in absurd z
content_row E.Script n0 n1 = refl
content_row E.Log n0 n1 = refl
content_row E.Foreach n0 n1 = let z : ⊥ = n1 refl in absurd z
content_row E.Send n0 n1 = refl
content_row E.Raise n0 n1 = refl
content_row E.Cancel n0 n1 = refl
content_row E.Assign n0 n1 = refl

pub else_above : (k : EntryKind) → (k ≡ E.If) → class_by 1 (entry_number k) ≡ above
unfolding choices
else_above k e = rw e refl

pub else_row : (k : EntryKind) → (k ≡ E.If → ⊥) → class_by 1 (entry_number k) ≡ row 3
unfolding choices
else_row E.If n0 = let z : ⊥ = n0 refl in absurd z
else_row E.Script n0 = refl
else_row E.Log n0 = refl
else_row E.Foreach n0 = refl
else_row E.Send n0 = refl
else_row E.Raise n0 = refl
else_row E.Cancel n0 = refl
else_row E.Assign n0 = refl

pub owner_transition : (k : ListKind) → (k ≡ L.Targets) ⊎ (k ≡ L.Events) → class_by 3 (list_number k) ≡ row 2
unfolding choices
owner_transition k (inl e) = rw e refl
owner_transition k (inr e) = rw e refl

pub owner_state : (k : ListKind) → (k ≡ L.Targets → ⊥) → (k ≡ L.Events → ⊥) → (k ≡ L.SendNames → ⊥) → (k ≡ L.InvokeNames → ⊥) → class_by 3 (list_number k) ≡ row 1
unfolding choices
owner_state L.Children n0 n1 n2 n3 = refl
owner_state L.History n0 n1 n2 n3 = refl
owner_state L.Onentry n0 n1 n2 n3 = refl
owner_state L.Onexit n0 n1 n2 n3 = refl
owner_state L.Transitions n0 n1 n2 n3 = refl
owner_state L.Targets n0 n1 n2 n3 = let z : ⊥ = n0 refl in absurd z
owner_state L.Events n0 n1 n2 n3 = let z : ⊥ = n1 refl in absurd z
owner_state L.SendNames n0 n1 n2 n3 = let z : ⊥ = n2 refl in absurd z
owner_state L.InvokeNames n0 n1 n2 n3 = let z : ⊥ = n3 refl in absurd z

pub value_state : (k : ListKind) → (k ≡ L.Children) ⊎ ((k ≡ L.History) ⊎ (k ≡ L.Targets)) → class_by 4 (list_number k) ≡ existing 1
unfolding choices
value_state k (inl e) = rw e refl
value_state k (inr (inl e)) = rw e refl
value_state k (inr (inr e)) = rw e refl

pub value_region : (k : ListKind) → (k ≡ L.Onentry) ⊎ (k ≡ L.Onexit) → class_by 4 (list_number k) ≡ existing 3
unfolding choices
value_region k (inl e) = rw e refl
value_region k (inr e) = rw e refl

pub value_none : (k : ListKind) → (k ≡ L.Children → ⊥) → (k ≡ L.History → ⊥) → (k ≡ L.Targets → ⊥) → (k ≡ L.Onentry → ⊥) → (k ≡ L.Onexit → ⊥) → (k ≡ L.Transitions → ⊥) → class_by 4 (list_number k) ≡ spare
unfolding choices
value_none L.Children n0 n1 n2 n3 n4 n5 = let z : ⊥ = n0 refl in absurd z
value_none L.History n0 n1 n2 n3 n4 n5 = let z : ⊥ = n1 refl in absurd z
value_none L.Onentry n0 n1 n2 n3 n4 n5 = let z : ⊥ = n3 refl in absurd z
value_none L.Onexit n0 n1 n2 n3 n4 n5 = let z : ⊥ = n4 refl in absurd z
value_none L.Transitions n0 n1 n2 n3 n4 n5 = let z : ⊥ = n5 refl in absurd z
value_none L.Targets n0 n1 n2 n3 n4 n5 = let z : ⊥ = n2 refl in absurd z
value_none L.Events n0 n1 n2 n3 n4 n5 = refl
value_none L.SendNames n0 n1 n2 n3 n4 n5 = refl
value_none L.InvokeNames n0 n1 n2 n3 n4 n5 = refl
