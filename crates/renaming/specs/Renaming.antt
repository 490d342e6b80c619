-- DEMAND 3, the statement: one theorem over whole lists of calls from the empty chart. Rename state names, replace the texts of cond, expr and array by others
-- of equal length, and every answer, counter, open element and number stays the same, names renamed. Document 01, 'What contracts say'.
use Rattle.std.specs.Prelude.{ℕ, ◌<◌, ◌≡◌, Bool, true, false, List, [], ◌∷◌, ◌++◌, map, length, get_or, T, eqb}
use Rattle.std.proofs.Math.Option.{Option, none, some}
use Rattle.definition.specs.declared.Limits.{Limits}
use Rattle.definition.specs.Text.{str, all_allowed, is_separator, is_word, starts_generated}
use Rattle.definition.specs.Elements.{Role, name, names, masked, plain, role_of, tag_of, key_of}
use Rattle.definition.specs.Event as E
use Rattle.definition.specs.Event.{Line, line_of, lines_from, tail_from, is_nil, legible}
use Rattle.definition.specs.Rows.{Row, shown, role_at, cell_at, text_at}
use Rattle.definition.specs.Reader.{Call, event, reading, Answer, counts, run, start, zeros}

-- ---- renamings

-- One-to-one. "Possible names are the strings of bytes 0 to 127." It keeps lengths, takes words to words, and is the identity on names that begin `__id` or
-- are not one word.
pub record Renaming (ρ : List ℕ → List ℕ) : Type 0 where
  pub allowed : (a : List ℕ) → T (all_allowed a) → T (all_allowed (ρ a))
  pub inj : (a b : List ℕ) → T (all_allowed a) → T (all_allowed b) → ρ a ≡ ρ b → a ≡ b
  pub len : (a : List ℕ) → T (all_allowed a) → length (ρ a) ≡ length a
  pub word : (a : List ℕ) → T (all_allowed a) → T (is_word a) → T (is_word (ρ a))
  pub other : (a : List ℕ) → T (all_allowed a) → (T (is_word a) → ⊥) → ρ a ≡ a
  pub keeps : (a : List ℕ) → T (all_allowed a) → T (starts_generated a) → ρ a ≡ a

-- "In `initial` and `target` each word is renamed by itself." The word w is already read.
unfoldable pub rename_words : (List ℕ → List ℕ) → List ℕ → List ℕ → List ℕ
unfolding is_separator
rename_words ρ w [] = ρ w
rename_words ρ w (b ∷ bs) = elim (is_separator b) [ true ↦ ρ w ++ b ∷ rename_words ρ [] bs | false ↦ rename_words ρ (w ++ b ∷ []) bs ]

-- ---- lines, in form or not

unfoldable pub last_line : List ℕ → List (List ℕ)
last_line [] = []
last_line (b ∷ bs) = (b ∷ bs) ∷ []

-- The lines, and bytes after the last line's end as one more.
unfoldable pub all_lines : List ℕ → List (List ℕ)
unfolding lines_from tail_from last_line
all_lines raw = lines_from [] raw ++ last_line (tail_from [] raw)

-- An element's name and a key as they are written; 0 where they can't be read.
unfoldable pub tag_written : List ℕ → ℕ
unfolding legible tag_of
tag_written n = elim (legible n) [ none ↦ 0 | some w ↦ tag_of w ]

unfoldable pub key_written : List ℕ → ℕ
unfolding legible key_of
key_written k = elim (legible k) [ none ↦ 0 | some w ↦ key_of w ]

-- "Its element is on the event's first `name=` line, in an event out of form too."
unfoldable pub element_in : List Line → ℕ
unfolding tag_written
element_in [] = 0
element_in (E.name n ∷ ls) = tag_written n
element_in (E.event x ∷ ls) = element_in ls
element_in (E.key x ∷ ls) = element_in ls
element_in (E.value x ∷ ls) = element_in ls
element_in (E.text x ∷ ls) = element_in ls
element_in (E.junk ∷ ls) = element_in ls

-- The key that a line gives to the next one.
unfoldable pub key_before : Line → Option (List ℕ)
key_before (E.key k) = some k
key_before (E.event x) = none
key_before (E.name x) = none
key_before (E.value x) = none
key_before (E.text x) = none
key_before E.junk = none

-- A line that is no key's value.
unfoldable pub is_free : Option (List ℕ) → Line → Bool
is_free none l = true
is_free (some k) (E.value v) = false
is_free (some k) (E.event x) = true
is_free (some k) (E.name x) = true
is_free (some k) (E.text x) = true
is_free (some k) (E.key x) = true
is_free (some k) E.junk = true

-- ---- a row as it is read

-- "A state's name that another row keeps is a state name too".
unfoldable pub shown_role : ℕ → ℕ → Option Role
unfolding role_at
shown_role t c = elim (eqb c shown.state_name) [ true ↦ some name | false ↦ role_at t c ]

module _ (ρ : List ℕ → List ℕ) where
  -- ---- a value and its partner

  abbrev pub Moved : Role → List ℕ → List ℕ → Type 0
  Moved name v w = w ≡ ρ v
  Moved names v w = w ≡ rename_words ρ [] v
  Moved masked v w = length w ≡ length v
  Moved plain v w = w ≡ v

  -- "Names and texts are taken unescaped, and both the old and the new are bytes 0 to 127; what can't be unescaped, or has other bytes, is the same in both
  -- lists." Each occurrence is replaced on its own.
  pub data ValueRel (q : Role) (v w : List ℕ) : Type 0 where
    illegible : legible v ≡ none → w ≡ v → ValueRel q v w
    legibly : (x y : List ℕ) → legible v ≡ some x → legible w ≡ some y → Moved q x y → ValueRel q v w

  -- "A value is what follows `value=` on the line after its `key=` line." g is the element; every other line is the same.
  pub data LinesRel (g : ℕ) : Option (List ℕ) → List (List ℕ) → List (List ℕ) → Type 0 where
    done : {p : Option (List ℕ)} → LinesRel g p [] []
    kept : {p : Option (List ℕ)} (l : List ℕ) {ls ms : List (List ℕ)} → is_free p (line_of l) ≡ true → LinesRel g (key_before (line_of l)) ls ms
        → LinesRel g p (l ∷ ls) (l ∷ ms)
    moved : {k : List ℕ} (v w : List ℕ) {ls ms : List (List ℕ)} → ValueRel (role_of g (key_written k)) v w → LinesRel g none ls ms
        → LinesRel g (some k) ((str "value=" ++ v) ∷ ls) ((str "value=" ++ w) ∷ ms)

  -- "The events, and the kinds and numbers of the rows asked for, are given with the list; the partner's are the same but for names and texts."
  pub data CallRel : Call → Call → Type 0 where
    events : (c d : List ℕ) → LinesRel (element_in (map line_of (all_lines c))) none (all_lines c) (all_lines d)
        → is_nil (tail_from [] d) ≡ is_nil (tail_from [] c) → CallRel (event c) (event d)
    readings : (t i : ℕ) → CallRel (reading t i) (reading t i)

  pub data CallsRel : List Call → List Call → Type 0 where
    stop : CallsRel [] []
    next : {c d : Call} {cs ds : List Call} → CallRel c d → CallsRel cs ds → CallsRel (c ∷ cs) (d ∷ ds)

  -- ---- an answer and its partner

  -- Every text column of a row, by its role: equal bytes, a renamed name, or each list's own text of equal length.
  abbrev pub TextsRel : List ℕ → List ℕ → (ℕ → Option Role) → Row → Type 0
  TextsRel x y roles r = (c : ℕ) (q : Role) → roles c ≡ some q → Moved q (text_at x (cell_at r c)) (text_at y (cell_at r c))

  abbrev pub kind_asked : Call → ℕ
  kind_asked (event raw) = 0
  kind_asked (reading t i) = t

  -- "An answer is the number." "Rows and charts are compared by their numbers and by the bytes of each name and text."
  pub record AnswerRel (c : Call) (a b : Answer) : Type 0 where
    pub number : b.number ≡ a.number
    pub position : b.position ≡ a.position
    pub tables : b.lent.tables ≡ a.lent.tables
    pub size : length b.lent.text ≡ length a.lent.text
    pub texts : (t i : ℕ) → i < get_or (counts a.position) t 0 → TextsRel a.lent.text b.lent.text (role_at t) (get_or (get_or a.lent.tables t []) i [])
    pub row : b.row ≡ a.row
    pub shown : TextsRel a.lent.text b.lent.text (shown_role (kind_asked c)) a.row

  pub data AnswersRel : List Call → List Answer → List Answer → Type 0 where
    stop : AnswersRel [] [] []
    next : {c : Call} {cs : List Call} {a b : Answer} {as₁ bs : List Answer} → AnswerRel c a b → AnswersRel cs as₁ bs → AnswersRel (c ∷ cs) (a ∷ as₁) (b ∷ bs)

  -- "Demand 3 is one claim about a whole list and its renamed partner." "Both lists start from it, in slices of zeros of the same lengths, too short ones
  -- included": from the empty chart.
  abbrev pub Demand3 : Type 0
  Demand3 = Renaming ρ → (L : Limits) (ks : List ℕ) (k : ℕ) (cs ds : List Call) → CallsRel cs ds
      → AnswersRel cs (run L (zeros ks k) start cs) (run L (zeros ks k) start ds)
