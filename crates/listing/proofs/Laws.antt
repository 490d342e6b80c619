-- A chart's lines, row by row.
use mathlib.Core.Path.{◌≡◌, ap, ◌∙◌}
use mathlib.Core.List.{List, [], ◌++◌}
use Prim.Native.Nat.{ℕ, suc, ◌+◌, ◌≤◌, ◌<◌}
use native.Mathlib.Numerals.{add-one}
use lib.ListN.{length, get_or, take, drop, drop_of_length-le}
use lib.Seq.{drop-cons}
use borrow.Author.Tests.{ne_eqb}
use Rattle.definition.specs.Text.{str, decimal}
use Rattle.definition.specs.Rows.{Table, num}
use Rattle.printing.specs.Put.{Put}
use Rattle.printing.specs.declared.page.Page.{Page}
use Rattle.printing.specs.Lines.{line}
use Rattle.listing.specs.Listing.{state_lines, states_from, type_word, transition_lines, transitions_from, listing}

-- what stands in a buffer that was filled from its first byte
pub printed : {x y : Page} {w b : List ℕ} → Put x y w → x.at ≡ 0 → b ≡ y.buffer.now → take y.at b ≡ take (length b) w
printed {x} {y} {w} {b} p e f =
    rw f (p.added.told ∙ ap (λ (n : ℕ). take (length y.buffer.now) (take n x.buffer.now ++ w)) e)

module _ (t : ℕ) where
  pub type_internal : t ≡ 1 → str "type=internal\n" ≡ line (str "type=") (type_word t)
  unfolding line type_word str
  type_internal e = rw e

  pub type_external : (t ≡ 1 → ⊥) → str "type=external\n" ≡ line (str "type=") (type_word t)
  unfolding line type_word str
  type_external h = rw (ne_eqb _ _ h, type_word)

module _ (text : List ℕ) (members rs : Table) (i : ℕ) where
  pub states_more : i < length rs → states_from text members (suc i) (drop i rs) ≡ state_lines text members (i + 1) (get_or rs i []) ++ states_from text members (suc (i + 1)) (drop (i + 1) rs)
  unfolding states_from
  states_more h = rw (drop-cons rs i [] h, add-one)

  pub states_end : length rs ≤ i → states_from text members (suc i) (drop i rs) ≡ []
  unfolding states_from
  states_end h = rw (drop_of_length-le rs h)

module _ (members rs : Table) (i : ℕ) where
  pub transitions_more : i < length rs → transitions_from members (drop i rs) ≡ transition_lines members (get_or rs i []) ++ transitions_from members (drop (i + 1) rs)
  unfolding transitions_from
  transitions_more h = rw (drop-cons rs i [] h, add-one)

  pub transitions_end : length rs ≤ i → transitions_from members (drop i rs) ≡ []
  unfolding transitions_from
  transitions_end h = rw (drop_of_length-le rs h)

-- what is put for a chart, piece by piece
pub chart-is :
    (charts : Table) {states transitions members s t m : Table} {text w : List ℕ} {root : ℕ} → root ≡ num (get_or charts 0 []) 0 → s ≡ states → t ≡ transitions → m ≡ members → w ≡ text
    → line (str "answer=") (decimal 0) ++ line (str "root=") (decimal root) ++ line (str "states=") (decimal (length s)) ++ line (str "transitions=") (decimal (length t)) ++ states_from w m 1 s ++ transitions_from m t
    ≡ listing charts states transitions members text
unfolding listing
chart-is charts e f g h k = rw (e, f, g, h, k)
