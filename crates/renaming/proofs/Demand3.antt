-- DEMAND 3, proved: runs over a list of calls and over its renamed partner agree in every answer, position, number and plain text, with names renamed.
use Prim.Native.Nat.{ℕ, zero, suc, ◌+◌}
use mathlib.Core.Path.{◌≡◌, refl, sym, ap, ap₂, ◌∙◌, subst, subst₂}
use mathlib.Core.Bool.{Bool, true, false, ◌&&◌, cond}
use mathlib.Core.List.{List, [], ◌∷◌, ◌++◌}
use lib.ListN.{length, get_or, take, drop, replicate, length-append, length-drop, take-append-drop}
use lib.Dec.{leb}
use lib.Seq.{take-append_seam}
use native.Mathlib.Omega.{arith}
use Rattle.definition.specs.declared.Limits.{Limits}
use Rattle.definition.specs.Text.{all_allowed}
use Rattle.definition.specs.Elements.{Role}
use Rattle.definition.specs.Rows.{Row, Table, table, shown, blank, Cell, no_cell, cell_at, text_from, text_at, Numbers, Store, role_at}
use Rattle.definition.specs.Rules.{table_limits, keeps_rules}
use Rattle.definition.specs.declared.Position.{Position}
use Rattle.definition.specs.Reader.{Reply, event_reply, no_row, exists, row_read, Lent, counts, taken, store_of, rows_in, position_of, over, over_all, lent_after, all_long, long_enough, all_at_most, in_order, Call, event, reading, Answer, refused, answer_of, answer_to, call, run, start, zeros, zero_tables}
use Rattle.renaming.specs.Renaming.{Renaming, Moved, shown_role, CallRel, CallsRel, TextsRel, kind_asked, AnswerRel, AnswersRel, Demand3}
use Rattle.definition.proofs.Base.{All, All-append, elim_cond}
use Rattle.definition.proofs.Places.{Fits, text_from-append}
use Rattle.renaming.proofs.Words.{Total}
use Rattle.renaming.proofs.Names.{Held, held_none, held_grow}
use Rattle.renaming.proofs.OnAllowed.{on_allowed, total, moved_back}
use Rattle.renaming.proofs.Edits.{RowOk, TablesOk, blank_ok}
use Rattle.renaming.proofs.Shown.{zeros_held, shown_held}
use Rattle.renaming.proofs.Parse.{read-ρ}
use Rattle.renaming.proofs.Allowed.{allowed_text}
use Rattle.renaming.proofs.Replies.{StoreRel, ReplyRel, reply-ρ}
use Rattle.renaming.proofs.RulesSame.{rules_same}

-- ---- parts of rows and tables

pub All-take : {A : Type 0} (P : A → Type 0) (k : ℕ) (xs : List A) → All P xs → All P (take k xs)
All-take P zero xs a = tt
All-take P (suc k) [] a = tt
All-take P (suc k) (x ∷ xs) a = (a.0, All-take P k xs a.1)

pub All-drop : {A : Type 0} (P : A → Type 0) (k : ℕ) (xs : List A) → All P xs → All P (drop k xs)
All-drop P zero xs a = a
All-drop P (suc k) [] a = tt
All-drop P (suc k) (x ∷ xs) a = All-drop P k xs a.1

pub All-replicate : {A : Type 0} (P : A → Type 0) (k : ℕ) (x : A) → P x → All P (replicate k x)
All-replicate P zero x p = tt
All-replicate P (suc k) x p = (p, All-replicate P k x p)

taken_all : (P : ℕ → Row → Type 0) (j : ℕ) (ks : List ℕ) (ts : List Table) → ((k : ℕ) → All (P (j + k)) (get_or ts k [])) → (k : ℕ) → All (P (j + k)) (get_or (taken ks ts) k [])
unfolding taken
taken_all P j [] ts h k = tt
taken_all P j (m ∷ ks) [] h k = tt
taken_all P j (m ∷ ks) (t ∷ ts) h zero = All-take (P (j + zero)) m t (h zero)
taken_all P j (m ∷ ks) (t ∷ ts) h (suc k) =
    subst (λ (x : ℕ). All (P x) (get_or (taken ks ts) k [])) (omega arith)
    (taken_all P (suc j) ks ts (λ i. subst (λ (x : ℕ). All (P x) (get_or ts i [])) (omega arith) (h (suc i))) k)

over_all_lem : (P : ℕ → Row → Type 0) (j : ℕ) (us ts : List Table) → ((k : ℕ) → All (P (j + k)) (get_or us k [])) → ((k : ℕ) → All (P (j + k)) (get_or ts k []))
    → (k : ℕ) → All (P (j + k)) (get_or (over_all us ts) k [])
unfolding over_all over
over_all_lem P j us [] h g k = tt
over_all_lem P j [] (t ∷ ts) h g k = g k
over_all_lem P j (w ∷ us) (t ∷ ts) h g zero = All-append (P (j + zero)) w (drop (length w) t) (h zero) (All-drop (P (j + zero)) (length w) t (g zero))
over_all_lem P j (w ∷ us) (t ∷ ts) h g (suc k) =
    subst (λ (x : ℕ). All (P x) (get_or (over_all us ts) k [])) (omega arith)
    (over_all_lem P (suc j) us ts (λ i. subst (λ (x : ℕ). All (P x) (get_or us i [])) (omega arith) (h (suc i)))
    (λ i. subst (λ (x : ℕ). All (P x) (get_or ts i [])) (omega arith) (g (suc i))) k)

zero_tables_lem : (P : ℕ → Row → Type 0) → ((k : ℕ) → P k (blank k)) → (j : ℕ) (ks : List ℕ) (k : ℕ) → All (P (j + k)) (get_or (zero_tables j ks) k [])
unfolding zero_tables
zero_tables_lem P b j [] k = tt
zero_tables_lem P b j (m ∷ ks) zero = All-replicate (P (j + zero)) m (blank j) (subst (λ (x : ℕ). P x (blank j)) (omega arith) (b j))
zero_tables_lem P b j (m ∷ ks) (suc k) = subst (λ (x : ℕ). All (P x) (get_or (zero_tables (suc j) ks) k [])) (omega arith) (zero_tables_lem P b (suc j) ks k)

from_zero : (P : ℕ → Row → Type 0) (ts : List Table) → ((k : ℕ) → All (P (0 + k)) (get_or ts k [])) → (k : ℕ) → All (P k) (get_or ts k [])
from_zero P ts h k = subst (λ (x : ℕ). All (P x) (get_or ts k [])) (omega arith) (h k)

to_zero : (P : ℕ → Row → Type 0) (ts : List Table) → ((k : ℕ) → All (P k) (get_or ts k [])) → (k : ℕ) → All (P (0 + k)) (get_or ts k [])
to_zero P ts h k = subst (λ (x : ℕ). All (P x) (get_or ts k [])) (omega arith) (h k)

-- ---- lent slices

module _ (ρ : List ℕ → List ℕ) (N : Renaming ρ) where
  abbrev σ : List ℕ → List ℕ
  σ = on_allowed ρ

  abbrev R : Total σ
  R = total ρ N

  -- All rows of the slices, in use or not, hold related texts.
  record LentRel (x y : Lent) (p : Position) : Type 0 where
    tables : y.tables ≡ x.tables
    size : length y.text ≡ length x.text
    used : length (take p.used y.text) ≡ length (take p.used x.text)
    ok : TablesOk σ R (take p.used x.text) (take p.used y.text) used x.tables
    allowed : all_allowed (take p.used x.text) ≡ true

  -- ---- what is in use

  store-ρ : (x y : Lent) (p : Position) → LentRel x y p → StoreRel σ R (store_of x p) (store_of y p)
  unfolding store_of
  store-ρ x y p h =
      record {
        numbers = ap (λ (ts : List Table). record { tables = taken (counts p) ts; current = p.current.0; ids = p.ids; docs = p.docs; names = p.names; charge = p.charge }) h.tables;
        size = h.used;
        ok =
            from_zero (RowOk σ R (take p.used x.text) (take p.used y.text) h.used) (taken (counts p) x.tables)
            (taken_all (RowOk σ R (take p.used x.text) (take p.used y.text) h.used) 0 (counts p) x.tables
            (to_zero (RowOk σ R (take p.used x.text) (take p.used y.text) h.used) x.tables h.ok));
        allowed = h.allowed;
      }

  -- ---- texts of the slices are those in use

  text_used : (n : ℕ) (v : List ℕ) (c : Cell) → Fits (length (take n v)) c.at c.len → text_at v c ≡ text_at (take n v) c
  unfolding text_at
  text_used n v c f =
      ap (λ (z : List ℕ). text_from z c.at c.len) (sym (take-append-drop n v)) ∙ text_from-append (take n v) (drop n v) c.at c.len f

  held_moved : (x y : Lent) (p : Position) → LentRel x y p → (q : Role) (c : Cell) → Held σ R (take p.used x.text) (take p.used y.text) q c
      → Moved ρ q (text_at x.text c) (text_at y.text c)
  held_moved x y p h q c k =
      subst₂ (Moved ρ q) (sym (text_used p.used x.text c k.inside))
      (sym (text_used p.used y.text c (subst (λ (m : ℕ). Fits m c.at c.len) (sym h.used) k.inside)))
      (moved_back ρ N q (text_at (take p.used x.text) c) (text_at (take p.used y.text) c) (allowed_text (take p.used x.text) h.allowed c) k.moved)

  module _ (x y : Lent) (p : Position) (h : LentRel x y p) where
    texts_of_lem : (k : ℕ) (rs : Table) → All (RowOk σ R (take p.used x.text) (take p.used y.text) h.used k) rs
        → (i : ℕ) → TextsRel ρ x.text y.text (role_at k) (get_or rs i [])
    unfolding cell_at no_cell
    texts_of_lem k [] a i c q e = held_moved x y p h q no_cell (held_none σ R (take p.used x.text) (take p.used y.text) q)
    texts_of_lem k (r ∷ rs) a zero c q e = held_moved x y p h q (cell_at r c) (a.0 c q e).1
    texts_of_lem k (r ∷ rs) a (suc i) c q e = texts_of_lem k rs a.1 i c q e

    no_texts_lem : (k : ℕ) → TextsRel ρ x.text y.text (shown_role k) no_row
    unfolding no_row
    no_texts_lem k c q e =
        held_moved x y p h q (cell_at (replicate shown.width 0) c) (zeros_held σ R (take p.used x.text) (take p.used y.text) h.used shown.width k c q)

  -- An answer: what is lent after it is related, and so is the row.
  answer-ρ : (c : Call) (a b : Answer) → b.number ≡ a.number → b.position ≡ a.position → LentRel a.lent b.lent a.position
      → b.row ≡ a.row → TextsRel ρ a.lent.text b.lent.text (shown_role (kind_asked ρ c)) a.row → AnswerRel ρ c a b
  answer-ρ c a b e f h g k =
      record {
        number = e;
        position = f;
        tables = h.tables;
        size = h.size;
        texts = λ t i l. texts_of_lem a.lent b.lent a.position h t (get_or a.lent.tables t []) (h.ok t) i;
        row = g;
        shown = k;
      }

  -- A call's answers, and the slices that the next call gets.
  record CalledRel (c : Call) (a b : Answer) : Type 0 where
    answer : AnswerRel ρ c a b
    lent : LentRel a.lent b.lent a.position

  refused-ρ : (c : Call) (k : ℕ) (x y : Lent) (p : Position) → LentRel x y p → CalledRel c (refused k x p) (refused k y p)
  unfolding refused
  refused-ρ c k x y p h =
      record { answer = answer-ρ c (refused k x p) (refused k y p) refl refl h refl (no_texts_lem x y p h (kind_asked ρ c)); lent = h }

  -- ---- questions 1 and 2

  long_same : (L : Limits) (x y : Lent) (p : Position) → LentRel x y p → long_enough L y ≡ long_enough L x
  unfolding long_enough
  long_same L x y p h = ap₂ (λ (ts : List Table) (k : ℕ). all_long (table_limits L) ts && leb L.charge k) h.tables h.size

  rules_of : (L : Limits) (s r : Store) → StoreRel σ R s r → keeps_rules L r ≡ keeps_rules L s
  rules_of L s r h =
      ap (λ (n : Numbers). keeps_rules L (record { numbers = n; text = r.text })) h.numbers
      ∙ rules_same s.numbers s.text r.text h.size σ R h.ok L

  order_same : (L : Limits) (x y : Lent) (p : Position) → LentRel x y p → in_order L y p ≡ in_order L x p
  unfolding in_order
  order_same L x y p h = go (all_at_most (counts p) (table_limits L) && leb p.used L.charge) refl
    where
      go : (b : Bool) → (all_at_most (counts p) (table_limits L) && leb p.used L.charge) ≡ b → in_order L y p ≡ in_order L x p
      go true e = rw (e, in_order) (rules_of L (store_of x p) (store_of y p) (store-ρ x y p h))
      go false e = rw (e, in_order)

  -- ---- an event: what is lent after it

  over_used : (w v : List ℕ) → take (length w) (over w v) ≡ w
  unfolding over
  over_used w v = take-append_seam w (drop (length w) v)

  over_size : (w z v y : List ℕ) → length z ≡ length w → length y ≡ length v → length (over z y) ≡ length (over w v)
  unfolding over
  over_size w z v y e f =
      omega (arith, length-append z (drop (length z) y), length-append w (drop (length w) v), length-drop (length z) y, length-drop (length w) v)

  position_same : (s r : Store) → r.numbers ≡ s.numbers → length r.text ≡ length s.text → position_of r ≡ position_of s
  unfolding position_of
  position_same s r e f =
      ap (λ (n : Numbers). position_of (record { numbers = n; text = r.text })) e ∙ at s.numbers f
    where
      at : (n : Numbers) → length r.text ≡ length s.text → position_of (record { numbers = n; text = r.text }) ≡ position_of (record { numbers = n; text = s.text })
      at n f = λ i.
          record {
            opened = rows_in n table.opened;
            states = rows_in n table.states;
            transitions = rows_in n table.transitions;
            regions = rows_in n table.regions;
            entries = rows_in n table.entries;
            invokes = rows_in n table.invokes;
            datums = rows_in n table.datums;
            parameters = rows_in n table.parameters;
            members = rows_in n table.members;
            open_regions = rows_in n table.open_regions;
            current = record { 0 = n.current };
            ids = n.ids;
            docs = n.docs;
            names = n.names;
            used = f i;
            charge = n.charge;
          }

  module _ (x y : Lent) (p : Position) (h : LentRel x y p) (a b : Reply) (m : ReplyRel σ R (store_of x p) (store_of y p) a b) where
    t : List ℕ
    t = a.store.text

    u : List ℕ
    u = b.store.text

    sized : length b.store.text ≡ length a.store.text
    sized = ap length m.text₂ ∙ m.size ∙ sym (ap length m.text)

    -- Rows written by the event.
    new_rows : TablesOk σ R a.store.text b.store.text sized a.store.numbers.tables
    new_rows k = rows k (get_or a.store.numbers.tables k []) (m.ok k)
      where
        rows : (k : ℕ) (rs : Table) → All (RowOk σ R ((store_of x p).text ++ m.more) ((store_of y p).text ++ m.more₂) m.size k) rs
            → All (RowOk σ R a.store.text b.store.text sized k) rs
        rows k [] z = tt
        rows k (r ∷ rs) z = (
          (λ c q e. ((z.0 c q e).0, subst₂ (λ (v w : List ℕ). Held σ R v w q (cell_at r c)) (sym m.text) (sym m.text₂) (z.0 c q e).1)),
          rows k rs z.1,
        )

    -- Rows that lie beyond.
    old_rows : TablesOk σ R a.store.text b.store.text sized x.tables
    unfolding store_of
    old_rows k = rows k (get_or x.tables k []) (h.ok k)
      where
        rows : (k : ℕ) (rs : Table) → All (RowOk σ R (take p.used x.text) (take p.used y.text) h.used k) rs
            → All (RowOk σ R a.store.text b.store.text sized k) rs
        rows k [] z = tt
        rows k (r ∷ rs) z = (
          (λ c q e. (
            (z.0 c q e).0,
            subst₂ (λ (v w : List ℕ). Held σ R v w q (cell_at r c)) (sym m.text) (sym m.text₂)
                (held_grow σ R (take p.used x.text) (take p.used y.text) m.more m.more₂ h.used q (cell_at r c) (z.0 c q e).1),
          )),
          rows k rs z.1,
        )

    abbrev x₂ : Lent
    x₂ = lent_after x a.store

    abbrev y₂ : Lent
    y₂ = lent_after y b.store

    abbrev p₂ : Position
    p₂ = position_of a.store

    text_x : take p₂.used x₂.text ≡ a.store.text
    unfolding lent_after position_of
    text_x = over_used a.store.text x.text

    text_y : take p₂.used y₂.text ≡ b.store.text
    unfolding lent_after position_of
    text_y = ap (λ (k : ℕ). take k (over b.store.text y.text)) (sym sized) ∙ over_used b.store.text y.text

    used₂ : length (take p₂.used y₂.text) ≡ length (take p₂.used x₂.text)
    used₂ = ap length text_y ∙ sized ∙ sym (ap length text_x)

    all_rows : TablesOk σ R a.store.text b.store.text sized x₂.tables
    unfolding lent_after
    all_rows =
        from_zero (RowOk σ R a.store.text b.store.text sized) (over_all a.store.numbers.tables x.tables)
        (over_all_lem (RowOk σ R a.store.text b.store.text sized) 0 a.store.numbers.tables x.tables
        (to_zero (RowOk σ R a.store.text b.store.text sized) a.store.numbers.tables new_rows)
        (to_zero (RowOk σ R a.store.text b.store.text sized) x.tables old_rows))

    lent_after_lem : LentRel x₂ y₂ p₂
    unfolding lent_after
    lent_after_lem =
        record {
          tables = ap₂ over_all (ap (λ (n : Numbers). n.tables) m.numbers) h.tables;
          size = over_size a.store.text b.store.text x.text y.text sized h.size;
          used = used₂;
          ok = λ k. again k (get_or (over_all a.store.numbers.tables x.tables) k []) (all_rows k);
          allowed = ap all_allowed (text_x ∙ m.text) ∙ m.allowed;
        }
      where
        again : (k : ℕ) (rs : Table) → All (RowOk σ R a.store.text b.store.text sized k) rs
            → All (RowOk σ R (take p₂.used x₂.text) (take p₂.used y₂.text) used₂ k) rs
        again k [] z = tt
        again k (r ∷ rs) z = (
          (λ c q e. ((z.0 c q e).0, subst₂ (λ (v w : List ℕ). Held σ R v w q (cell_at r c)) (sym text_x) (sym text_y) (z.0 c q e).1)),
          again k rs z.1,
        )

    event_answer : (c : Call) (k : ℕ) → a.number ≡ k → CalledRel c (answer_of x p a) (answer_of y p b)
    unfolding answer_of
    event_answer c zero e =
        rw (e, answer_of, m.number ∙ e, answer_of)
        (record {
          answer = answer-ρ c _ _ refl (position_same a.store b.store m.numbers sized) lent_after_lem refl (no_texts_lem x₂ y₂ p₂ lent_after_lem (kind_asked ρ c));
          lent = lent_after_lem;
        })
    event_answer c (suc k) e = rw (e, answer_of, m.number ∙ e, answer_of) (refused-ρ c (suc k) x y p h)

  -- ---- a reading

  abbrev row_or : Lent → Position → Numbers → ℕ → ℕ → Bool → Answer
  row_or x p n k i b = cond b (record { number = 0; row = row_read n k i; lent = x; position = p }) (refused 16 x p)

  read_cond : (L : Limits) (x : Lent) (p : Position) (k i : ℕ)
      → answer_to L x p (reading k i) ≡ row_or x p (store_of x p).numbers k i (exists (store_of x p).numbers k i)
  unfolding answer_to
  read_cond L x p k i =
      elim_cond (exists (store_of x p).numbers k i) (record { number = 0; row = row_read (store_of x p).numbers k i; lent = x; position = p }) (refused 16 x p)

  row-ρ : (x y : Lent) (p : Position) → LentRel x y p → (k i : ℕ) (b : Bool)
      → CalledRel (reading k i) (row_or x p (store_of x p).numbers k i b) (row_or y p (store_of x p).numbers k i b)
  unfolding store_of
  row-ρ x y p h k i true =
      record {
        answer =
            answer-ρ (reading k i) (row_or x p (store_of x p).numbers k i true) (row_or y p (store_of x p).numbers k i true) refl refl h refl
            (λ c q e.
            held_moved x y p h q (cell_at (row_read (store_of x p).numbers k i) c)
            (shown_held σ R (take p.used x.text) (take p.used y.text) h.used (store_of x p).numbers (store-ρ x y p h).ok k i c q e));
        lent = h;
      }
  row-ρ x y p h k i false = refused-ρ (reading k i) 16 x y p h

  reading-ρ : (L : Limits) (x y : Lent) (p : Position) → LentRel x y p → (k i : ℕ)
      → CalledRel (reading k i) (answer_to L x p (reading k i)) (answer_to L y p (reading k i))
  reading-ρ L x y p h k i =
      let n : Numbers = (store_of x p).numbers in
      let e : (store_of y p).numbers ≡ n = (store-ρ x y p h).numbers in
      subst₂ (CalledRel (reading k i)) (sym (read_cond L x p k i))
      (ap (λ (m : Numbers). row_or y p m k i (exists m k i)) (sym e) ∙ sym (read_cond L y p k i))
      (row-ρ x y p h k i (exists n k i))

  -- ---- a call

  answer_to_lem : (L : Limits) (x y : Lent) (p : Position) → LentRel x y p → {c d : Call} → CallRel ρ c d → CalledRel c (answer_to L x p c) (answer_to L y p d)
  unfolding answer_to event_reply
  answer_to_lem L x y p h (CallRel.events c d l e) =
      event_answer x y p h (event_reply L (store_of x p) c) (event_reply L (store_of y p) d)
      (reply-ρ σ R L (store_of x p) (store_of y p) (store-ρ x y p h) (read-ρ ρ N c d l e)) (event c) (event_reply L (store_of x p) c).number refl
  answer_to_lem L x y p h (CallRel.readings k i) = reading-ρ L x y p h k i

  call-ρ : (L : Limits) (x y : Lent) (p : Position) → LentRel x y p → {c d : Call} → CallRel ρ c d → CalledRel c (call L x p c) (call L y p d)
  unfolding call
  call-ρ L x y p h {c} {d} m = go (long_enough L x) (in_order L x p) refl refl
    where
      go : (a b : Bool) → long_enough L x ≡ a → in_order L x p ≡ b → CalledRel c (call L x p c) (call L y p d)
      go false b e f = rw (e, call, long_same L x y p h ∙ e, call) (refused-ρ c 1 x y p h)
      go true false e f = rw (e, call, long_same L x y p h ∙ e, call, f, call, order_same L x y p h ∙ f, call) (refused-ρ c 2 x y p h)
      go true true e f = rw (e, call, long_same L x y p h ∙ e, call, f, call, order_same L x y p h ∙ f, call) (answer_to_lem L x y p h m)

  -- ---- a list of calls

  run-ρ : (L : Limits) (x y : Lent) (p : Position) → LentRel x y p → {cs ds : List Call} → CallsRel ρ cs ds → AnswersRel ρ cs (run L x p cs) (run L y p ds)
  unfolding run
  run-ρ L x y p h CallsRel.stop = AnswersRel.stop
  run-ρ L x y p h (CallsRel.next {c = c} {d = d} {cs = cs} {ds = ds} m k) =
      let z : CalledRel c (call L x p c) (call L y p d) = call-ρ L x y p h m in
      let q : (call L y p d).position ≡ (call L x p c).position = z.answer.position in
      AnswersRel.next z.answer
      (subst (λ (w : Position). AnswersRel ρ cs (run L (call L x p c).lent (call L x p c).position cs) (run L (call L y p d).lent w ds)) (sym q)
      (run-ρ L (call L x p c).lent (call L y p d).lent (call L x p c).position z.lent k))

  start-ρ : (ks : List ℕ) (k : ℕ) → LentRel (zeros ks k) (zeros ks k) start
  unfolding zeros start all_allowed
  start-ρ ks k =
      record {
        tables = refl;
        size = refl;
        used = refl;
        ok = from_zero (RowOk σ R [] [] refl) (zero_tables 0 ks) (zero_tables_lem (RowOk σ R [] [] refl) (blank_ok σ R [] [] refl) 0 ks);
        allowed = refl;
      }

-- DEMAND 3
pub demand3 : (ρ : List ℕ → List ℕ) → Demand3 ρ
demand3 ρ N L ks k cs ds m = run-ρ ρ N L (zeros ks k) (zeros ks k) start (start-ρ ρ N ks k) m
