-- An event's start, its end, or both: what is accepted keeps the rules.
use Prim.Native.Nat.{ℕ, zero, suc, ◌+◌, ◌-◌, ◌≤◌}
use mathlib.Core.Path.{◌≡◌, refl, sym, ap, ◌∙◌, subst}
use mathlib.Core.Bool.{true, false}
use mathlib.Core.List.{List, [], ◌∷◌, ◌++◌}
use lib.ListN.{length, length-append}
use lib.Dec.{eqb, leb}
use native.Mathlib.Omega.{arith}
use Rattle.definition.specs.declared.Limits.{Limits}
use Rattle.definition.specs.Elements.{among}
use Rattle.definition.specs.Nesting.{nesting, allowed_in, parent_allowed}
use Rattle.definition.specs.Rows.{Row, Table, num, Numbers, table_of, last_of, innermost, parent_tag}
use Rattle.definition.specs.Look.{Look}
use Rattle.definition.specs.Change.{Change, Outcome, done, refuse, made, pushed, popped, opened_row, with_tables}
use Rattle.definition.specs.Rules.{is_block, blocks_in}
use Rattle.definition.specs.Reader.{start_of, end_of, Verdict, accept, reject, on_done, started, finished, handled}
use Rattle.definition.proofs.Changes.{last_snoc}
use Rattle.kept.proofs.Base.{le_of, false_is_true, eq_of, test}
use Rattle.kept.proofs.RowTexts.{LookIn}
use Rattle.kept.proofs.Steps.{Good}
use Rattle.kept.proofs.Regions.{Tags, blocks_more, blocks_block}
use Rattle.kept.proofs.Members.{Out, out, no_out}
use Rattle.kept.proofs.StatesOut.{Ready}
use Rattle.kept.proofs.Dispatch.{room, Heard, out_start, out_end}
use Rattle.kept.proofs.Okay.{OkOf, ready_of, drop_shorter}
use Rattle.kept.proofs.OpenClose.{Named, push_ok, push_opened, push_chart, pop_ok, pop_opened, pop_chart}

-- The charge is that of n₀, and the chart's own row is still there.
abbrev pub Still : Numbers → Numbers → Type 0
Still n₀ n = (n.charge ≡ n₀.charge) × (length (table_of n₀ 0) ≤ length (table_of n 0))

-- m: the most open elements; n₀: the numbers before.
pub data OkV (L : Limits) (t : List ℕ) (m : ℕ) (n₀ : Numbers) : Verdict → Type 0 where
  fine : {n : Numbers} → OkOf L t n → length (table_of n 9) ≤ m → Still n₀ n → OkV L t m n₀ (accept n)
  refused : {k : ℕ} → OkV L t m n₀ (reject k)

on_out : (L : Limits) (t : List ℕ) (m : ℕ) (z : Numbers) (u : ℕ) (l : Look) (n : Numbers) (b : ℕ) (o : Outcome) (next : Change → Verdict) → Out u l n b o
    → ((c : Change) → Good u l n c → Tags c.regions → blocks_in 1 c.regions ≤ b → OkV L t m z (next c)) → OkV L t m z (on_done o next)
unfolding on_done
on_out L t m z u l n b (done c) next (out G k h) f = f c G k h
on_out L t m z u l n b (refuse k) next no_out f = refused

-- ---- else and elseif stand in an if

last_block : (d : Row) (rs : Table) → is_block (num (last_of d rs) 0) ≡ true → is_block (num d 0) ≡ false → 1 ≤ blocks_in 0 rs
unfolding last_of
last_block d [] e f = false_is_true (sym f ∙ e)
last_block d (r ∷ rs) e f =
    test (is_block (num r 0)) (λ g. omega (arith, blocks_block 0 r rs g)) (λ g. omega (arith, blocks_more 0 r rs, last_block r rs e g))

in_if_lem : (p : ℕ) → among p (24 ∷ []) ≡ true → p ≡ 24
unfolding among
in_if_lem p e = test (eqb p 24) (λ f. eq_of p 24 f) (λ f. let z : false ≡ true = rw (f, among) at e in false_is_true z)

parent_block : (n : Numbers) → parent_tag n ≡ 24 → 1 ≤ blocks_in 0 (table_of n 9)
unfolding parent_tag innermost is_block
parent_block n e = last_block [] (table_of n 9) (ap is_block e) refl

else_parent : (n : Numbers) (g : ℕ) → parent_allowed g (parent_tag n) ≡ true → g ≡ 12 → 1 ≤ blocks_in 0 (table_of n 9)
unfolding parent_allowed allowed_in nesting
else_parent n g h e = parent_block n (in_if_lem (parent_tag n) (subst (λ (x : ℕ). parent_allowed x (parent_tag n) ≡ true) e h))

elseif_parent : (n : Numbers) (g : ℕ) → parent_allowed g (parent_tag n) ≡ true → g ≡ 13 → 1 ≤ blocks_in 0 (table_of n 9)
unfolding parent_allowed allowed_in nesting
elseif_parent n g h e = parent_block n (in_if_lem (parent_tag n) (subst (λ (x : ℕ). parent_allowed x (parent_tag n) ≡ true) e h))

module _ (L : Limits) (t : List ℕ) (l : Look) where
  -- ---- a start

  pub started_ok : (m : ℕ) (z n : Numbers) → OkOf L t n → Heard (length t) l n → Named L l → parent_allowed l.tag (parent_tag n) ≡ true → (next : Numbers → Verdict)
      → ((k : Numbers) → OkOf L t k → length (table_of k 9) ≡ suc (length (table_of n 9)) → num (last_of [] (table_of k 9)) 0 ≡ l.tag → Still n k → OkV L t m z (next k)) → OkV L t m z (started l n next)
  unfolding started
  started_ok m z n K H N p next f =
      let u : ℕ = length t in
      let b : ℕ = blocks_in 0 (table_of n 9) in
      let R : Ready u l n b = ready_of L t n K l in
      on_out L t m z u l n (b + room l.tag) (start_of l.tag n l) (λ c. next (pushed l c (made l c n)))
      (out_start u l n H b R (else_parent n l.tag p) (elseif_parent n l.tag p) l.tag refl) (λ c G k h.
      let e : table_of (pushed l c (made l c n)) 9 ≡ table_of n 9 ++ opened_row l c ∷ [] = push_opened L t n K l c G k in
      f (pushed l c (made l c n)) (push_ok L t n K l c G k N h) (omega (arith, ap length e, length-append (table_of n 9) (opened_row l c ∷ [])))
      (ap (λ (rs : Table). num (last_of [] rs) 0) e ∙ ap (λ (r : Row). num r 0) (last_snoc [] (table_of n 9) (opened_row l c)) ∙ opened_tag c) (same_charge c, push_chart L t n K l c G k))
    where
      opened_tag : (c : Change) → num (opened_row l c) 0 ≡ l.tag
      opened_tag c = unfold opened_row in refl

      same_charge : (c : Change) → (pushed l c (made l c n)).charge ≡ n.charge
      same_charge c = unfold pushed made with_tables in refl

  -- ---- an end

  pub finished_ok : (m : ℕ) (z n : Numbers) → OkOf L t n → LookIn (length t) l → num (last_of [] (table_of n 9)) 0 ≡ l.tag → length (table_of n 9) ≤ m → Still z n → OkV L t m z (finished l n)
  unfolding finished
  finished_ok m z n K i e w q =
      let u : ℕ = length t in
      let b : ℕ = blocks_in 0 (table_of n 9) in
      let R : Ready u l n b = ready_of L t n K l in
      on_out L t m z u l n (b - room l.tag) (end_of l.tag n) (λ c. accept (popped (made l c n))) (out_end u l n i b R l.tag) (λ c G k h.
      fine (pop_ok L t n K l c G k e h) (omega (arith, ap length (pop_opened L t n K l c G k), drop_shorter (table_of n 9), w)) (same_charge c ∙ q.0, omega (arith, q.1, pop_chart L t n K l c G k)))
    where
      same_charge : (c : Change) → (popped (made l c n)).charge ≡ n.charge
      same_charge c = unfold popped made with_tables in refl

  -- ---- an event

  pub begun_ok : (k m : ℕ) (n : Numbers) → OkOf L t n → Heard (length t) l n → Named L l → parent_allowed l.tag (parent_tag n) ≡ true → suc (length (table_of n 9)) ≤ m → leb k 2 ≡ true
      → OkV L t m n (handled k l n)
  unfolding handled
  begun_ok zero m n K H N p w e = started_ok m n n K H N p accept (λ q J s g z. fine J (omega (arith, s, w)) z)
  begun_ok (suc zero) m n K H N p w e = started_ok m n n K H N p (finished l) (λ q J s g z. finished_ok m n q J H.look_in g (omega (arith, s, w)) z)
  begun_ok (suc (suc zero)) m n K H N p w e = started_ok m n n K H N p (finished l) (λ q J s g z. finished_ok m n q J H.look_in g (omega (arith, s, w)) z)
  begun_ok (suc (suc (suc k))) m n K H N p w e = absurd (omega (arith, le_of (suc (suc (suc k))) 2 e))

  pub ended_ok : (k m : ℕ) (n : Numbers) → OkOf L t n → LookIn (length t) l → num (last_of [] (table_of n 9)) 0 ≡ l.tag → length (table_of n 9) ≤ m
      → OkV L t m n (handled (suc (suc (suc k))) l n)
  unfolding handled
  ended_ok k m n K i e w = finished_ok m n n K i e w (refl, omega arith)
