-- THE THEOREM: every accepted event keeps the chart rules, and counters and charge cover the rows, for every store that keeps them.
use Prim.Native.Nat.{ℕ, zero, suc, ◌≤◌}
use mathlib.Core.Path.{◌≡◌, refl, sym, ap, ◌∙◌, subst}
use mathlib.Core.Bool.{Bool, true, false, ◌&&◌, ◌||◌, not}
use mathlib.Core.Option.{Option, none, some}
use mathlib.Core.List.{List, [], ◌∷◌}
use lib.ListN.{length, get_or}
use lib.Dec.{eqb, leb, ltb}
use native.Mathlib.Omega.{arith}
use Rattle.definition.specs.declared.Limits.{Limits}
use Rattle.definition.specs.Elements.{key, tag_of}
use Rattle.definition.specs.Nesting.{parent_allowed}
use Rattle.definition.specs.Event.{Event, read_event, in_form, keys_differ, kind_fits, between, attributes_fit, text_fits}
use Rattle.definition.specs.Rows.{Table, num, Numbers, table_of, Store, last_of, innermost, parent_tag}
use Rattle.definition.specs.Look.{Look, look, text_after}
use Rattle.definition.specs.Change.{entered}
use Rattle.definition.specs.Rules.{all_within, chart_limits, counters_within, within_limits, keeps_rules}
use Rattle.definition.specs.Reader.{is_start, word_taken, Question, questions, first_no, Verdict, accept, reject, handled, limited, decided, settled, reply_to, event_reply}
use Rattle.kept.specs.Statements.{RulesKept}
use Rattle.kept.proofs.Base.{le_of, and_left, and_right, or_right, false_is_true, true_is_false}
use Rattle.kept.proofs.Okay.{OkOf}
use Rattle.kept.proofs.Facts.{Within, rules_from, rules_to}
use Rattle.kept.proofs.Verdicts.{Still, OkV, fine, begun_ok, ended_ok}
use Rattle.kept.proofs.Codes.{innermost_tag}
use Rattle.kept.proofs.Sizes.{open_regions_le, blocks_le, opened_within, all_within_lem}
use Rattle.kept.proofs.LookOk.{named_of, heard, look_in_text, now_ok, now_opened, now_chart, charge_now}

-- ---- what the questions say

question_yes : (q : Question) (qs : List Question) → first_no (q ∷ qs) ≡ 0 → eqb q.otherwise 0 ≡ false → q.yes ≡ true
unfolding first_no
question_yes q qs e f = go q.yes refl
  where
    go : (b : Bool) → q.yes ≡ b → b ≡ true
    go true g = refl
    go false g =
        let z : q.otherwise ≡ 0 = rw (g, first_no) at e in
        true_is_false (sym (Rattle.kept.proofs.Base.eqb_of q.otherwise 0 z) ∙ f)

question_rest : (q : Question) (qs : List Question) → first_no (q ∷ qs) ≡ 0 → eqb q.otherwise 0 ≡ false → first_no qs ≡ 0
unfolding first_no
question_rest q qs e f = rw (question_yes q qs e f, first_no) at e

pub record Asked (L : Limits) (n : Numbers) (l : Look) : Type 0 where
  pub innermost : (is_start l || l.innermost) ≡ true
  pub room : (not (is_start l) || ltb (length (table_of n 9)) L.opened) ≡ true
  pub parent : (not (is_start l) || parent_allowed l.tag (parent_tag n)) ≡ true
  pub words : (word_taken l key.binding && word_taken l key.type) ≡ true

asked : (L : Limits) (n : Numbers) (l : Look) → first_no (questions L n l) ≡ 0 → Asked L n l
unfolding questions
asked L n l e =
    let e₁ = question_rest _ _ e refl in
    let e₂ = question_rest _ _ e₁ refl in
    let e₃ = question_rest _ _ e₂ refl in
    let e₄ = question_rest _ _ e₃ refl in
    let e₅ = question_rest _ _ e₄ refl in
    let e₆ = question_rest _ _ e₅ refl in
    let e₇ = question_rest _ _ e₆ refl in
    record { innermost = question_yes _ _ e refl; room = question_yes _ _ e₂ refl; parent = question_yes _ _ e₃ refl; words = question_yes _ _ e₇ refl }

-- ---- the form

form_kind : (L : Limits) (e : Event) → in_form L e ≡ true → kind_fits e.kind e ≡ true
unfolding in_form
form_kind L e h =
    let a = kind_fits e.kind e in
    let b = between 1 L.name e.name in
    let c = leb (length e.attributes) L.attributes in
    let d = attributes_fit L e.attributes in
    let f = text_fits L e.text in
    and_left a b (and_left (a && b) c (and_left ((a && b) && c) d (and_left (((a && b) && c) && d) f h)))

form_name : (L : Limits) (e : Event) → in_form L e ≡ true → (1 ≤ length e.name) × (length e.name ≤ L.name)
unfolding in_form between
form_name L e h =
    let a = kind_fits e.kind e in
    let b = between 1 L.name e.name in
    let c = leb (length e.attributes) L.attributes in
    let d = attributes_fit L e.attributes in
    let f = text_fits L e.text in
    let p = leb 1 (length e.name) in
    let q = leb (length e.name) L.name in
    let k : (p && q) ≡ true = and_right a b (and_left (a && b) c (and_left ((a && b) && c) d (and_left (((a && b) && c) && d) f h))) in
    (le_of 1 (length e.name) (and_left p q k), le_of (length e.name) L.name (and_right p q k))

-- ---- an event in form, asked all questions

parent_same : (m n : Numbers) → table_of m 9 ≡ table_of n 9 → parent_tag m ≡ parent_tag n
unfolding parent_tag innermost
parent_same m n e = ap (λ (rs : Table). num (last_of [] rs) 0) e

module _ (L : Limits) (s : Store) (e : Event) (short : leb L.name 64 ≡ true) (K : OkOf L s.text s.numbers) (W : Within L s) (form : in_form L e ≡ true) (Q : Asked L s.numbers (look s e)) where
  abbrev n : Numbers
  n = s.numbers

  abbrev l : Look
  l = look s e

  abbrev t : List ℕ
  t = text_after s e

  abbrev m : Numbers
  m = entered l n

  start_of : (k : ℕ) → e.kind ≡ k → is_start l ≡ not (eqb k 3)
  unfolding is_start look
  start_of k z = ap (λ (x : ℕ). not (eqb x 3)) z

  begun : (k : ℕ) → e.kind ≡ k → not (eqb k 3) ≡ true → leb k 2 ≡ true → OkV L t L.opened m (handled k l m)
  unfolding text_after
  begun k z p q =
      let st : is_start l ≡ true = start_of k z ∙ p in
      let r₀ : not (is_start l) ≡ false = ap not st in
      let room : ltb (length (table_of n 9)) L.opened ≡ true = or_right (not (is_start l)) (ltb (length (table_of n 9)) L.opened) r₀ Q.room in
      let parent : parent_allowed l.tag (parent_tag n) ≡ true = or_right (not (is_start l)) (parent_allowed l.tag (parent_tag n)) r₀ Q.parent in
      let N = form_name L e form in
      let b = word_taken l key.binding in
      let y = word_taken l key.type in
      begun_ok L t l k L.opened m (now_ok L s e K) (heard L s e K (ap (λ (x : ℕ). not (eqb x 3)) z ∙ p) (and_left b y Q.words) (and_right b y Q.words)) (named_of L s e short N.0 N.1)
      (subst (λ (x : ℕ). parent_allowed l.tag x ≡ true) (sym (parent_same m n (now_opened L s e K))) parent)
      (omega (arith, ap length (now_opened L s e K), le_of (suc (length (table_of n 9))) L.opened room)) q

  last_tag_lem : e.kind ≡ 3 → num (last_of [] (table_of m 9)) 0 ≡ l.tag
  last_tag_lem z =
      let st : is_start l ≡ false = start_of 3 z in
      ap (λ (rs : Table). num (last_of [] rs) 0) (now_opened L s e K) ∙ tagged (or_right (is_start l) l.innermost st Q.innermost)
    where
      tagged : l.innermost ≡ true → num (last_of [] (table_of n 9)) 0 ≡ l.tag
      tagged i = unfold look in innermost_tag (table_of n 9) (table_of n 10) (tag_of e.name) e.name (unfold look in i)

  handled_ok : (k : ℕ) → e.kind ≡ k → kind_fits k e ≡ true → OkV L t L.opened m (handled k l m)
  unfolding kind_fits
  handled_ok zero z f = begun 0 z refl refl
  handled_ok (suc zero) z f = begun 1 z refl refl
  handled_ok (suc (suc zero)) z f = begun 2 z refl refl
  handled_ok (suc (suc (suc zero))) z f = ended z
    where
      ended : e.kind ≡ 3 → OkV L t L.opened m (handled 3 l m)
      ended z = unfold text_after in
          ended_ok L t l 0 L.opened m (now_ok L s e K) (look_in_text L s e K) (last_tag_lem z)
          (omega (arith, ap length (now_opened L s e K), opened_within L n.tables K.sound.twelve W.tables))
  handled_ok (suc (suc (suc (suc k)))) z f = false_is_true f

  pub verdict_ok : OkV L t L.opened m (handled l.kind l m)
  unfolding look
  verdict_ok = handled_ok e.kind refl (form_kind L e form)

  pub covered : length t ≤ m.charge
  unfolding text_after
  covered = charge_now L s e K W.text

-- ---- an accepted verdict

pub record Accepted (L : Limits) (t : List ℕ) (q k : Numbers) : Type 0 where
  pub ok : OkOf L t k
  pub opened : length (table_of k 9) ≤ L.opened
  pub still : Still q k
  pub within : within_limits L k ≡ true

of_fine : (L : Limits) (t : List ℕ) (b : ℕ) (q k : Numbers) → OkV L t b q (accept k) → OkOf L t k × (length (table_of k 9) ≤ b) × Still q k
of_fine L t b q k (fine K h z) = (K, h, z)

limited_ok : (L : Limits) (t : List ℕ) (q : Numbers) (v : Verdict) (k : Numbers) → OkV L t L.opened q v → limited L v ≡ accept k → Accepted L t q k
unfolding limited
limited_ok L t q (reject j) k p e = let z : ◌≡◌ {A = ℕ} 0 1 = cc in absurd (omega arith)
limited_ok L t q (accept j) k p e = go (within_limits L j) refl
  where
    go : (b : Bool) → within_limits L j ≡ b → Accepted L t q k
    go true f =
        let h : accept j ≡ accept k = rw (f, limited) at e in
        let z : j ≡ k = cc in
        let x = of_fine L t L.opened q j p in
        subst (Accepted L t q) z (record { ok = x.0; opened = x.1; still = x.2; within = f })
    go false f = let h : reject 15 ≡ accept k = rw (f, limited) at e in let z : ◌≡◌ {A = ℕ} 0 1 = cc in absurd (omega arith)

kept_by : (L : Limits) (t : List ℕ) (q k : Numbers) → Accepted L t q k → length t ≤ q.charge → keeps_rules L (record { numbers = k; text = t }) ≡ true
unfolding within_limits
kept_by L t q k A h =
    let T : List Table = k.tables in
    let a = all_within (chart_limits L) T in
    let b = counters_within L k in
    let K : OkOf L t k = A.ok in
    rules_to L (record { numbers = k; text = t })
    (record {
      tables =
          all_within_lem L T K.sound.twelve (and_left a b A.within) A.opened (omega (arith, K.even, A.opened))
          (omega (arith, open_regions_le (get_or T 11 []) K.tags, K.blocks, blocks_le 0 (get_or T 9 []), A.opened));
      counters = and_right a b A.within;
      text = omega (arith, A.still.0, h);
    })
    K

-- The rules, and the chart's own row.
abbrev pub KeptFrom : Limits → Store → Store → Type 0
KeptFrom L s r = (keeps_rules L r ≡ true) × (length (table_of s.numbers 0) ≤ length (table_of r.numbers 0))

decided_kept : (L : Limits) (s : Store) (e : Event) → leb L.name 64 ≡ true → keeps_rules L s ≡ true → Within L s → OkOf L s.text s.numbers → in_form L e ≡ true
    → (v : Verdict) → decided L s.numbers (look s e) ≡ v → KeptFrom L s (settled s (text_after s e) v).store
unfolding settled decided
decided_kept L s e short rules W K form (reject k) d = (rules, omega arith)
decided_kept L s e short rules W K form (accept k) d = go (first_no (questions L s.numbers (look s e))) refl
  where
    go : (j : ℕ) → first_no (questions L s.numbers (look s e)) ≡ j → KeptFrom L s (record { numbers = k; text = text_after s e })
    go zero f =
        let m : Numbers = entered (look s e) s.numbers in
        let Q : Asked L s.numbers (look s e) = asked L s.numbers (look s e) f in
        let h : limited L (handled (look s e).kind (look s e) m) ≡ accept k = rw (f, decided) at d in
        let A : Accepted L (text_after s e) m k = limited_ok L (text_after s e) m (handled (look s e).kind (look s e) m) k (verdict_ok L s e short K W form Q) h in
        (kept_by L (text_after s e) m k A (covered L s e short K W form Q), omega (arith, A.still.1, ap length (now_chart L s e K)))
    go (suc j) f = let h : reject (suc j) ≡ accept k = rw (f, decided) at d in let z : ◌≡◌ {A = ℕ} 0 1 = cc in absurd (omega arith)

-- By an event that is accepted.
pub accepted_kept : (L : Limits) (s : Store) (e : Event) → leb L.name 64 ≡ true → keeps_rules L s ≡ true → in_form L e ≡ true → (m : Numbers) → decided L s.numbers (look s e) ≡ accept m
    → keeps_rules L (record { numbers = m; text = text_after s e }) ≡ true
unfolding settled
accepted_kept L s e short rules form m d = let both = rules_from L s rules in (decided_kept L s e short rules both.0 both.1 form (accept m) d).0

reply_kept : (L : Limits) (s : Store) (o : Option Event) → leb L.name 64 ≡ true → keeps_rules L s ≡ true → KeptFrom L s (reply_to L s o).store
unfolding reply_to
reply_kept L s none short rules = (rules, omega arith)
reply_kept L s (some e) short rules = go (in_form L e) (keys_differ e.attributes) refl refl
  where
    both : Within L s × OkOf L s.text s.numbers
    both = rules_from L s rules

    go : (p q : Bool) → in_form L e ≡ p → keys_differ e.attributes ≡ q → KeptFrom L s (reply_to L s (some e)).store
    go false q f g = rw (f, reply_to) (rules, omega arith)
    go true false f g = rw (f, reply_to, g, reply_to) (rules, omega arith)
    go true true f g = rw (f, reply_to, g, reply_to) (decided_kept L s e short rules both.0 both.1 f (decided L s.numbers (look s e)) refl)

-- By every event, accepted or refused; the chart keeps its own row.
pub kept_from : (L : Limits) (s : Store) (raw : List ℕ) → leb L.name 64 ≡ true → keeps_rules L s ≡ true → KeptFrom L s (event_reply L s raw).store
unfolding event_reply
kept_from L s raw short rules = reply_kept L s (read_event raw) short rules

-- THE RULES ARE KEPT BY EVERY EVENT, accepted or refused.
pub all_kept : (L : Limits) (s : Store) (raw : List ℕ) → leb L.name 64 ≡ true → keeps_rules L s ≡ true → keeps_rules L (event_reply L s raw).store ≡ true
all_kept L s raw short rules = (kept_from L s raw short rules).0

pub rules_kept_lem : RulesKept
rules_kept_lem L s raw short rules accepted = all_kept L s raw short rules
