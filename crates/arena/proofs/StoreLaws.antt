-- For the proof of write_texts: what each step leaves is what the next asks.
use Prim.Native.Nat.{ℕ, suc, ◌+◌, ◌≤◌}
use mathlib.Core.Path.{◌≡◌, sym, ap, ap₂, ◌∙◌, subst}
use mathlib.Core.Bool.{Bool}
use mathlib.Core.List.{List, ◌++◌, append_assoc}
use native.Mathlib.Omega.{arith}
use lib.ListN.{length, take, drop, length-append, length-take}
use lib.Seq.{take_at, length-take-le}
use Rattle.definition.specs.declared.Position.{Position}
use Rattle.definition.specs.Text.{Piece}
use Rattle.definition.specs.Rows.{Row, Table}
use Rattle.definition.specs.Look.{payload, text_loads, name_loads}
use Rattle.definition.proofs.Charges.{payload_append}
use Rattle.plain.specs.Plain.{Parsed}
use Rattle.plan.specs.declared.MembersPlan.{MembersPlan}
use Rattle.wordlists.specs.Words.{set_all}
use Rattle.payload.specs.Laid.{laid}
use Rattle.payload.specs.declared.Ends.{Ends}
use Rattle.payload.specs.Payload.{made_in, all_loads, payload_in, ends_in}
use Rattle.texts.specs.EventTexts.{event_texts, Ended, Texts}
use Rattle.wordlists.specs.Words.{word_rows_of}
use Rattle.targets.specs.Names.{pieces_in, skip_of, NameRoom, NamesWritten, OwnIn, TargetsIn}
use Rattle.arena.specs.Storing.{owner_of, arena, Storable, Stored}

parts_length : (v : Parsed) (n : ℕ) → length (payload_in v n) ≡ length (payload v.values) + length (payload (text_loads v.tag v.text)) + length (payload (name_loads (made_in v) (suc n)))
unfolding payload_in all_loads
parts_length v n =
    payload_append (v.values ++ text_loads v.tag v.text) (name_loads (made_in v) (suc n))
    ∙ ap (λ (k : ℕ). k + length (payload (name_loads (made_in v) (suc n)))) (payload_append v.values (text_loads v.tag v.text))

room_to : (st ms ms' : Table) (a a' : List ℕ) (c n n' k : ℕ) (ps ps' : List Piece) → ms ≡ ms' → a ≡ a' → n ≡ n' → ps ≡ ps' → NameRoom st ms a c n k ps → NameRoom st ms' a' c n' k ps'
room_to st ms ms' a a' c n n' k ps ps' em ea en ep R = rw (← em, ← ea, ← en, ← ep) R

written_to : (st ms ms' : Table) (a a' : List ℕ) (c n n' o k : ℕ) (ps ps' : List Piece) (st' ms'' : Table) (i j : ℕ) → ms ≡ ms' → a ≡ a' → n ≡ n' → ps ≡ ps'
    → NamesWritten st ms a c n o k ps st' ms'' i j → NamesWritten st ms' a' c n' o k ps' st' ms'' i j
written_to st ms ms' a a' c n n' o k ps ps' st' ms'' i j em ea en ep W = rw (← em, ← ea, ← en, ← ep) W

module _ {p : Position} {v : Parsed} {st ms : Table} {tx : List ℕ} {made : Bool} {m : MembersPlan} (S : Storable p v st ms tx made m) where
  abbrev n : ℕ
  n = p.names

  module _ {e : Ends} (ee : e ≡ ends_in p.used v n) {tx' : List ℕ} (ex : tx' ≡ laid tx p.used (payload_in v n)) where
    end_is : e.all ≡ p.used + length (payload_in v n)
    unfolding ends_in
    end_is =
        let a : e.all ≡ p.used + length (payload v.values) + length (payload (text_loads v.tag v.text)) + length (payload (name_loads (made_in v) (suc n))) = ap (λ (x : Ends). x.all) ee in
        omega (arith, a, parts_length v n)

    pub ended : Ended p.used v e
    unfolding ends_in
    ended =
        let a : e.all ≡ p.used + length (payload v.values) + length (payload (text_loads v.tag v.text)) + length (payload (name_loads (made_in v) (suc n))) = ap (λ (x : Ends). x.all) ee in
        let b : e.text ≡ p.used + length (payload v.values) + length (payload (text_loads v.tag v.text)) = ap (λ (x : Ends). x.text) ee in
        let c : e.values ≡ p.used + length (payload v.values) = ap (λ (x : Ends). x.values) ee in
        record { values = c; text = omega (arith, b, c); made = omega (arith, a, b); small = omega (arith, end_is, S.small) }

    module _ {a : List ℕ} (ea : a ≡ take e.all tx') where
      arena_is : a ≡ arena p v tx
      unfolding laid
      arena_is =
          let u : p.used ≤ length tx = omega (arith, S.room) in
          let l : length (take p.used tx ++ payload_in v n) ≡ p.used + length (payload_in v n) = length-append (take p.used tx) (payload_in v n) ∙ ap (λ (k : ℕ). k + length (payload_in v n)) (length-take-le p.used tx u) in
          ea ∙ ap₂ take end_is ex
          ∙ ap (take (p.used + length (payload_in v n))) (sym (append_assoc (take p.used tx) (payload_in v n) (drop (p.used + length (payload_in v n)) tx)))
          ∙ take_at (take p.used tx ++ payload_in v n) (drop (p.used + length (payload_in v n)) tx) (p.used + length (payload_in v n)) l

      pub arena_short : length a ≤ 65535
      arena_short = omega (arith, ap length ea, length-take e.all tx', end_is, S.small)

      module _ {t : List ℕ} (et : Texts p.used v made e t) where
        texts_are : t ≡ event_texts p.used n v
        texts_are = et n S.generated ee

        abbrev rows : List Row
        rows = word_rows_of v.tag a t m.words

        rows_are : rows ≡ word_rows_of v.tag (arena p v tx) (event_texts p.used n v) m.words
        rows_are = ap₂ (λ (x y : List ℕ). word_rows_of v.tag x y m.words) arena_is texts_are

        pieces_are : pieces_in v.kind v.tag a t ≡ pieces_in v.kind v.tag (arena p v tx) (event_texts p.used n v)
        pieces_are = ap₂ (pieces_in v.kind v.tag) arena_is texts_are

        module _ {next : ℕ} (en : next ≡ p.members + length rows) {ms₁ : Table} (em : ms₁ ≡ set_all ms p.members rows) where
          members_are : ms₁ ≡ set_all ms p.members (word_rows_of v.tag (arena p v tx) (event_texts p.used n v) m.words)
          members_are = em ∙ ap (set_all ms p.members) rows_are

          next_is : next ≡ p.members + length (word_rows_of v.tag (arena p v tx) (event_texts p.used n v) m.words)
          next_is = en ∙ ap (λ (rs : List Row). p.members + length rs) rows_are

          pub names_asked : NameRoom st ms₁ a p.states next (skip_of v.kind v.tag) (pieces_in v.kind v.tag a t) × (OwnIn v.kind v.tag a t × TargetsIn a t)
          names_asked = (
            room_to st _ ms₁ (arena p v tx) a p.states _ next (skip_of v.kind v.tag) _ (pieces_in v.kind v.tag a t) (sym members_are) (sym arena_is) (sym next_is) (sym pieces_are) S.names,
            subst (λ (x : List ℕ). OwnIn v.kind v.tag x t × TargetsIn x t) (sym arena_is) (subst (λ (x : List ℕ). OwnIn v.kind v.tag (arena p v tx) x × TargetsIn (arena p v tx) x) (sym texts_are) (S.own, S.targets)),
          )

          pub all_stored : {st' ms' : Table} {i j : ℕ} → NamesWritten st ms₁ a p.states next (owner_of m.targets) (skip_of v.kind v.tag) (pieces_in v.kind v.tag a t) st' ms' i j
              → Stored p v st ms tx m st' ms' tx' t (record { states = i; members = j; used = e.all })
          all_stored {st'} {ms'} {i} {j} W =
              record {
                text = ex;
                used = end_is;
                by_key_lem = texts_are;
                names =
                    written_to st ms₁ _ a (arena p v tx) p.states next _ (owner_of m.targets) (skip_of v.kind v.tag) (pieces_in v.kind v.tag a t) _ st' ms' i j members_are arena_is next_is pieces_are W;
              }
