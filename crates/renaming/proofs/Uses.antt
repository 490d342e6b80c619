-- Demand 3 put to use: whoever weakens a field of its conclusion loses one of these.
use Prim.Native.Nat.{ℕ, zero, suc, ◌<◌}
use mathlib.Core.Path.{◌≡◌, refl, ap, ap₂, ◌∙◌, subst}
use mathlib.Core.Bool.{Bool, true, false}
use mathlib.Core.Option.{some}
use mathlib.Core.List.{List, [], ◌∷◌, map}
use lib.ListN.{length, get_or, take}
use lib.Dec.{eqb}
use borrow.Author.Tests.{eqb-true}
use native.Mathlib.Omega.{arith}
use Rattle.definition.specs.Elements.{Role, name, masked, plain}
use Rattle.definition.specs.Rows.{Row, Table, table, shown, state, transition, entry, member, cell_at, text_at, role_at}
use Rattle.definition.specs.declared.Position.{Position}
use Rattle.definition.specs.Reader.{Call, reading, Answer, counts}
use Rattle.renaming.specs.Renaming.{Moved, shown_role, CallRel, CallsRel, AnswerRel, AnswersRel}
use Rattle.renaming.specs.Uses.{each, each_read, Alike, Equal, NumbersEqual, PositionsEqual, TablesEqual, TextsAsLong, RowsEqual, StateNamesRenamed, SendIdsEqual, WordsEqual, ConditionsAsLong, ArraysAsLong, ReadAlike, NamesReadRenamed, SendStatesRenamed, InvokeStatesRenamed, IdsReadEqual, ConditionsReadAsLong}
use Rattle.renaming.proofs.Demand3.{demand3}

-- ---- from one call to the list

parts : {X : Type 0} (ρ : List ℕ → List ℕ) (f g : Answer → X) → ((c : Call) (a b : Answer) → AnswerRel ρ c a b → g b ≡ f a)
    → {cs : List Call} {as₁ bs : List Answer} → AnswersRel ρ cs as₁ bs → map g bs ≡ map f as₁
parts ρ f g h AnswersRel.stop = refl
parts ρ f g h (AnswersRel.next {c = c} {a = a} {b = b} r k) = ap₂ ◌∷◌ (h c a b r) (parts ρ f g h k)

alike : {X : Type 0} (ρ : List ℕ → List ℕ) (f g : Answer → X) → ((c : Call) (a b : Answer) → AnswerRel ρ c a b → g b ≡ f a) → Alike ρ f g
alike ρ f g h N L ks k cs ds m = parts ρ f g h (demand3 ρ N L ks k cs ds m)

equal : {X : Type 0} (f : Answer → X) → ((ρ : List ℕ → List ℕ) (c : Call) (a b : Answer) → AnswerRel ρ c a b → f b ≡ f a) → Equal f
equal f h ρ = alike ρ f f (h ρ)

-- ---- numbers

pub numbers_equal : NumbersEqual
numbers_equal = equal (λ (a : Answer). a.number) (λ ρ c a b h. h.number)

pub positions_equal : PositionsEqual
positions_equal = equal (λ (a : Answer). a.position) (λ ρ c a b h. h.position)

pub tables_equal : TablesEqual
tables_equal = equal (λ (a : Answer). a.lent.tables) (λ ρ c a b h. h.tables)

pub texts_as_long : TextsAsLong
texts_as_long = equal (λ (a : Answer). length a.lent.text) (λ ρ c a b h. h.size)

pub rows_equal : RowsEqual
rows_equal = equal (λ (a : Answer). a.row) (λ ρ c a b h. h.row)

-- ---- texts

column : {X : Type 0} (f g : Row → X) (n : ℕ) (rs : Table) → ((i : ℕ) → i < n → g (get_or rs i []) ≡ f (get_or rs i [])) → map g (take n rs) ≡ map f (take n rs)
column f g zero rs h = refl
column f g (suc n) [] h = refl
column f g (suc n) (r ∷ rs) h = ap₂ ◌∷◌ (h 0 (omega arith)) (column f g n rs (λ i l. h (suc i) (omega (arith, l))))

-- Of a column with a role: what f makes of its texts here is what g makes of the partner's.
texts : {X : Type 0} (ρ : List ℕ → List ℕ) (f g : List ℕ → X) (t c : ℕ) (q : Role) → role_at t c ≡ some q → ((v w : List ℕ) → Moved ρ q v w → g w ≡ f v)
    → Alike ρ (each f t c) (each g t c)
unfolding each
texts ρ f g t c q e h =
    alike ρ (each f t c) (each g t c)
    (λ d a b r.
    ap₂ (λ (p : Position) (ts : List Table). map (λ (x : Row). g (text_at b.lent.text (cell_at x c))) (take (get_or (counts p) t 0) (get_or ts t []))) r.position r.tables
    ∙ column _ _ (get_or (counts a.position) t 0) (get_or a.lent.tables t []) (λ i l. h _ _ (r.texts t i l c q e)))

pub state_names_renamed : StateNamesRenamed
unfolding role_at
state_names_renamed ρ = texts ρ ρ _ table.states state.name name refl (λ v w e. e)

pub send_ids_equal : SendIdsEqual
unfolding role_at
send_ids_equal ρ = texts ρ _ _ table.entries entry.id plain refl (λ v w e. e)

pub words_equal : WordsEqual
unfolding role_at
words_equal ρ = texts ρ _ _ table.members member.word plain refl (λ v w e. e)

pub conditions_as_long : ConditionsAsLong
unfolding role_at
conditions_as_long ρ = texts ρ length length table.transitions transition.cond masked refl (λ v w e. e)

pub arrays_as_long : ArraysAsLong
unfolding role_at
arrays_as_long ρ = texts ρ length length table.entries entry.array masked refl (λ v w e. e)

-- ---- texts of rows as they are read

module _ {X : Type 0} (ρ : List ℕ → List ℕ) (f g : List ℕ → X) (t c : ℕ) (q : Role) (e : shown_role t c ≡ some q) (h : (v w : List ℕ) → Moved ρ q v w → g w ≡ f v) where
  cell_read : (i : ℕ) (a b : Answer) → AnswerRel ρ (reading t i) a b → g (text_at b.lent.text (cell_at b.row c)) ≡ f (text_at a.lent.text (cell_at a.row c))
  cell_read i a b r =
      ap (λ (x : Row). g (text_at b.lent.text (cell_at x c))) r.row ∙ h (text_at a.lent.text (cell_at a.row c)) (text_at b.lent.text (cell_at a.row c)) (r.shown c q e)

  cells_read : {cs ds : List Call} {as₁ bs : List Answer} → CallsRel ρ cs ds → AnswersRel ρ cs as₁ bs → each_read g t c ds bs ≡ each_read f t c cs as₁
  unfolding each_read
  cells_read CallsRel.stop AnswersRel.stop = refl
  cells_read (CallsRel.next (CallRel.events x y l z) k) (AnswersRel.next r n) = cells_read k n
  cells_read (CallsRel.next {cs = cs} {ds = ds} (CallRel.readings u i) k) (AnswersRel.next {a = a} {b = b} {as₁ = as₁} {bs = bs} r n) = go (eqb u t) refl (cells_read k n)
    where
      go : (s : Bool) → eqb u t ≡ s → each_read g t c ds bs ≡ each_read f t c cs as₁
          → each_read g t c (reading u i ∷ ds) (b ∷ bs) ≡ each_read f t c (reading u i ∷ cs) (a ∷ as₁)
      go true z ih = rw (z, each_read) (ap₂ ◌∷◌ (cell_read i a b (subst (λ (v : ℕ). AnswerRel ρ (reading v i) a b) (eqb-true u t z) r)) ih)
      go false z ih = rw (z, each_read) ih

  read_alike : ReadAlike ρ t c f g
  read_alike N L ks k cs ds m = cells_read m (demand3 ρ N L ks k cs ds m)

pub names_read_renamed : NamesReadRenamed
unfolding shown_role role_at
names_read_renamed ρ = read_alike ρ ρ (λ v. v) table.states state.name name refl (λ v w e. e)

pub send_states_renamed : SendStatesRenamed
unfolding shown_role
send_states_renamed ρ = read_alike ρ ρ (λ v. v) table.entries shown.state_name name refl (λ v w e. e)

pub invoke_states_renamed : InvokeStatesRenamed
unfolding shown_role
invoke_states_renamed ρ = read_alike ρ ρ (λ v. v) table.invokes shown.state_name name refl (λ v w e. e)

pub ids_read_equal : IdsReadEqual
unfolding shown_role role_at
ids_read_equal ρ = read_alike ρ (λ v. v) (λ v. v) table.entries entry.id plain refl (λ v w e. e)

pub conditions_read_as_long : ConditionsReadAsLong
unfolding shown_role role_at
conditions_read_as_long ρ = read_alike ρ length length table.transitions transition.cond masked refl (λ v w e. e)
