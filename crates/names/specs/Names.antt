-- The names that an event brings: found and counted. A name that stands several times is counted where it stands last, so that a count looks ahead only and
-- keeps no list.
use Rattle.std.specs.Prelude.{ℕ, ◌≡◌, ◌<◌, Option, MatchOption, zero, suc, ◌+◌, ◌-◌, Bool, true, false, List, [], ◌∷◌, length, get_or, drop, eqb, ltb}
use Rattle.definition.specs.Text.{same, Piece, pieces, is_separator, state_words, generated_name}
use Rattle.definition.specs.Elements.{tag, key, names_state}
use Rattle.definition.specs.Event.{kind}
use Rattle.definition.specs.Rows.{Table, state, num, Cell}
use Rattle.definition.specs.Look.{Load, has_load, find_name}
use Rattle.definition.proofs.Places.{Fits}
use Rattle.plain.specs.Plain.{Parsed}
use Rattle.plain.specs.Keyed.{value_in}
use Rattle.names.specs.declared.Names.{Names}

-- A cell that lies in a text.
abbrev pub Inside : List ℕ → Cell → Type 0
Inside t c = Fits (length t) c.at c.len

-- Whether these two bytes stand before a place and at it.
unfoldable pub ends_so : List ℕ → ℕ → ℕ → ℕ → Bool
ends_so t at before last =
    elim (ltb at (length t)) [
      | false ↦ false
      | true ↦ elim (eqb (get_or t at 0) last) [ false ↦ false | true ↦ elim (eqb at 0) [ true ↦ false | false ↦ eqb (get_or t (at - 1) 0) before ] ]
    ]

-- Which row is the last whose name may end so: it may and those behind it may not, and without one no row may.
abbrev pub IsLastLike : List ℕ → ℕ → ℕ → Table → Option ℕ → Type 0
IsLastLike t before last rows o =
    MatchOption o ((i : ℕ) → i < length rows → ends_so t (num (get_or rows i []) state.name) before last ≡ false)
    (λ k.
    (k < length rows) × ((i : ℕ) → k < i → i < length rows → ends_so t (num (get_or rows i []) state.name) before last ≡ false)
    × (ends_so t (num (get_or rows k []) state.name) before last ≡ true))

-- The words of a value from a place on.
abbrev pub words_from : List ℕ → ℕ → List Piece
words_from v at = pieces is_separator at [] (drop at v)

unfoldable pub occurs : List ℕ → List Piece → Bool
unfolding same
occurs w [] = false
occurs w (p ∷ ps) = elim (same p.word w) [ true ↦ true | false ↦ occurs w ps ]

-- 1 for a name that is not known and does not come again, else 0.
unfoldable pub new_if : Bool → List ℕ → List Piece → ℕ
unfolding occurs
new_if known w ps = elim known [ true ↦ 0 | false ↦ elim (occurs w ps) [ true ↦ 0 | false ↦ 1 ] ]

unfoldable pub is_known : List ℕ → List Cell → List ℕ → Bool
unfolding find_name
is_known t cs w = ltb (find_name t cs w) (length cs)

unfoldable pub new_in : List ℕ → List Cell → List Piece → ℕ
unfolding new_if is_known
new_in t cs [] = 0
new_in t cs (p ∷ ps) = new_if (is_known t cs p.word) p.word ps + new_in t cs ps

-- The first name's state, from 1; 0 without a name.
unfoldable pub first_of : List ℕ → List Cell → List Piece → ℕ
first_of t cs [] = 0
first_of t cs (p ∷ ps) = suc (find_name t cs p.word)

-- The first number that is not 0.
unfoldable pub first_nonzero : ℕ → ℕ → ℕ
first_nonzero zero k = k
first_nonzero (suc n) k = suc n

unfoldable pub counted : List ℕ → List Cell → List Piece → Names
unfolding first_of new_in
counted t cs ps = record { own = first_of t cs ps; refs = length ps; new = new_in t cs ps }

-- "Without `id` the name is `__id` and a count from 1": n were generated before.
unfoldable pub own_in : ℕ → List Load → List ℕ
unfolding value_in
own_in n is = elim (has_load key.id is) [ true ↦ value_in key.id is | false ↦ generated_name (suc n) ]

-- A state's own name and the words of its `initial`.
unfoldable pub state_names : ℕ → List Load → List Piece
unfolding own_in
state_names n is = record { off = 0; word = own_in n is } ∷ state_words (value_in key.initial is)

unfoldable pub brought_in : ℕ → Parsed → List Piece
unfolding state_names
brought_in n v =
    elim (eqb v.kind kind.ends) [
      | true ↦ []
      | false ↦
          elim (names_state v.tag) [
            | true ↦ state_names n v.values
            | false ↦ elim (eqb v.tag tag.transition) [ true ↦ state_words (value_in key.target v.values) | false ↦ [] ]
          ]
    ]

-- Among the names cs in the text t.
unfoldable pub names_in : List ℕ → List Cell → ℕ → Parsed → Names
unfolding counted brought_in
names_in t cs n v = counted t cs (brought_in n v)
