-- What is read of an event in form is what the handlers need.
use Prim.Native.Nat.{ℕ, zero, suc, ◌-◌, ◌≤◌}
use mathlib.Core.Path.{◌≡◌, refl, sym, ap, ◌∙◌, subst}
use mathlib.Core.Bool.{true, ◌&&◌, not}
use mathlib.Core.List.{List, [], ◌∷◌, ◌++◌, append-nil}
use lib.ListN.{length, get_or, take, drop, length-append, replicate}
use lib.Dec.{eqb, leb, eqb-suc-zero}
use lib.Seq.{take-append_seam, drop-append_seam}
use native.Mathlib.Omega.{arith}
use Rattle.definition.specs.declared.Limits.{Limits}
use Rattle.definition.specs.Elements.{key, role_of, names_state, tag_of}
use Rattle.definition.specs.Event.{Event, kind}
use Rattle.definition.specs.Rows.{Cell, Numbers, table_of, Store}
use Rattle.definition.specs.Look.{look, Load, resolve, name_cells, names_brought, loads_of, payload, code_by_role, kept_name, name_row, open_name}
use Rattle.definition.specs.Change.{entered, opened_row, code_for}
use Rattle.definition.specs.States.{own_state}
use Rattle.definition.specs.Rules.{unknown_fits}
use Rattle.definition.specs.Reader.{word_taken}
use Rattle.definition.proofs.Finds.{refs_length}
use Rattle.definition.proofs.Charges.{charge_covers}
use Rattle.definition.proofs.Places.{brought_located}
use Rattle.kept.proofs.Base.{le_of, leb_of, eqb_of, and_both, All, All-map}
use Rattle.kept.proofs.Classes.{HasRow}
use Rattle.kept.proofs.RowTexts.{LookIn}
use Rattle.kept.proofs.Dispatch.{Coded, Heard}
use Rattle.kept.proofs.Okay.{OkOf, NamedSo}
use Rattle.kept.proofs.OpenClose.{Named}
use Rattle.kept.proofs.Resolved.{Known, known_grow, InRange, AllResolved, all_resolved}
use Rattle.kept.proofs.Fields.{fields_in, id_there, own_brought}
use Rattle.kept.proofs.Codes.{field_code_lem, wild_code, auto_code, hist_code, bind_code, tag_range, name_width}
use Rattle.kept.proofs.EnteredOk.{known_of, entered_ok, entered_has, entered_opened, entered_chart}

-- ---- the open name

so_named : (L : Limits) (g : ℕ) (w : List ℕ) (a b : ℕ) → tag_of w ≡ g → 1 ≤ length w → length w ≤ L.name
    → NamedSo L (g ∷ a ∷ b ∷ length (kept_name g w) ∷ 0 ∷ 0 ∷ 0 ∷ 0 ∷ []) (name_row (kept_name g w))
unfolding kept_name unknown_fits open_name name_row
so_named L zero w a b e p q =
    let z : take (length w) (w ++ replicate (64 - length w) 0) ≡ w = take-append_seam w (replicate (64 - length w) 0) in
    and_both (leb 1 (length w) && leb (length w) L.name) (eqb (tag_of (take (length w) (w ++ replicate (64 - length w) 0))) 0) (and_both (leb 1 (length w)) (leb (length w) L.name) (leb_of 1 (length w) p) (leb_of (length w) L.name q))
    (eqb_of (tag_of (take (length w) (w ++ replicate (64 - length w) 0))) 0 (ap tag_of z ∙ e))
so_named L (suc g) w a b e p q = rw (eqb-suc-zero g)

pub named_of : (L : Limits) (s : Store) (e : Event) → leb L.name 64 ≡ true → 1 ≤ length e.name → length e.name ≤ L.name → Named L (look s e)
unfolding look opened_row
named_of L s e h p q =
    record {
      tag = tag_range e.name;
      width = name_width (tag_of e.name) e.name (omega (arith, le_of L.name 64 h, q));
      so = λ c. so_named L (tag_of e.name) e.name c.state c.transition refl p q;
    }

-- ---- what is resolved

first_in : (P : ℕ → Type 0) (vs : List ℕ) → All P vs → 1 ≤ length vs → P (get_or vs 0 0)
first_in P [] a h = absurd (omega arith)
first_in P (v ∷ vs) a h = a.0

module _ (L : Limits) (s : Store) (e : Event) (K : OkOf L s.text s.numbers) where
  abbrev n : Numbers
  n = s.numbers

  abbrev g : ℕ
  g = tag_of e.name

  abbrev is : List Load
  is = loads_of g n.names e

  abbrev t : List ℕ
  t = s.text ++ payload is

  abbrev o : ℕ
  o = length s.text

  grows : o ≤ length t
  grows = omega (arith, length-append s.text (payload is))

  at_end_lem : drop o t ≡ payload is ++ []
  at_end_lem = drop-append_seam s.text (payload is) ∙ sym (append-nil (payload is))

  abbrev cells : List Cell
  cells = name_cells (table_of n 1)

  resolved : AllResolved t cells (resolve t cells (names_brought g o is))
  resolved = all_resolved t cells (names_brought g o is) (known_grow s.text (payload is) cells (known_of L s.text n K)) (brought_located t g o is [] grows at_end_lem)

  look_known : Known t (look s e).known
  look_known = unfold look in resolved.known

  look_all : (look s e).known ≡ cells ++ resolved.more
  look_all = unfold look in resolved.all

  pub look_refs : All (InRange (length (look s e).known)) (look s e).refs
  look_refs = unfold look in resolved.refs

  -- Names are entered behind those that are known.
  pub look_grown : length (name_cells (table_of n 1)) ≤ length (look s e).known
  look_grown = omega (arith, ap length look_all, length-append cells resolved.more)

  pub look_in_text : LookIn (length t) (look s e)
  unfolding look
  look_in_text = record { fields = fields_in t g o is [] grows at_end_lem; base = grows }

  pub now_ok : OkOf L t (entered (look s e) n)
  now_ok = entered_ok L s.text t n K grows (look s e) look_known resolved.more look_all

  pub is_state : (v : ℕ) → InRange (length (look s e).known) v → HasRow (entered (look s e) n).tables 1 v
  is_state v h = entered_has L s.text t n K grows (look s e) look_known resolved.more look_all v h.0 h.1

  pub now_opened : table_of (entered (look s e) n) 9 ≡ table_of n 9
  now_opened = entered_opened L s.text t n K grows (look s e) look_known resolved.more look_all

  pub now_chart : table_of (entered (look s e) n) 0 ≡ table_of n 0
  now_chart = entered_chart L s.text t n K grows (look s e) look_known resolved.more look_all

  pub own_in_lem : not (eqb e.kind kind.ends) ≡ true → names_state (look s e).tag ≡ true → InRange (length (look s e).known) (own_state (look s e))
  unfolding own_state
  own_in_lem k q = first_in (InRange (length (look s e).known)) (look s e).refs look_refs (one q)
    where
      one : names_state (look s e).tag ≡ true → 1 ≤ length (look s e).refs
      one q = unfold look in omega (arith, refs_length t cells (names_brought g o is), own_brought g o is q (id_there g n.names e q k))

  look_wild : (look s e).tag ≡ 16 → Coded (code_for (look s e) 14 0) 1
  unfolding look code_for
  look_wild z = field_code_lem (λ (c : ℕ). Coded c 1) 0 g 14 o is (λ v. subst (λ (x : ℕ). Coded (code_by_role (role_of x 14) x 14 v) 1) (sym z) (wild_code v)) refl

  look_auto : (look s e).tag ≡ 8 → Coded (code_for (look s e) 13 0) 1
  unfolding look code_for
  look_auto z = field_code_lem (λ (c : ℕ). Coded c 1) 0 g 13 o is (λ v. subst (λ (x : ℕ). Coded (code_by_role (role_of x 13) x 13 v) 1) (sym z) (auto_code v)) refl

  pub heard : not (eqb e.kind kind.ends) ≡ true → word_taken (look s e) key.binding ≡ true → word_taken (look s e) key.type ≡ true → Heard (length t) (look s e) (entered (look s e) n)
  heard k b y =
      record {
        look_in = look_in_text;
        refs = All-map (InRange (length (look s e).known)) (HasRow (entered (look s e) n).tables 1) is_state (look s e).refs look_refs;
        own = λ q. is_state (own_state (look s e)) (own_in_lem k q);
        wild = look_wild;
        auto = look_auto;
        hist = λ z. hist_code (look s e) z y;
        bind = λ z h. bind_code (look s e) z b h;
      }

  pub charge_now : length s.text ≤ n.charge → length t ≤ (entered (look s e) n).charge
  unfolding entered look
  charge_now h = omega (arith, h, charge_covers g n.names e, length-append s.text (payload is))
