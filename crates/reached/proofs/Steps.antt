-- Steps of handlers that open and close no region, and what a handler's outcome must be.
use Prim.Native.Nat.{ℕ, zero, suc}
use mathlib.Core.Path.{◌≡◌, refl, sym, ap, ◌∙◌, subst}
use mathlib.Core.Bool.{true, not, false≢true}
use mathlib.Core.List.{List, [], ◌∷◌, ◌++◌, reverse, append-nil, append_assoc}
use lib.ListN.{get_or}
use Rattle.definition.specs.Elements.{among, names_state}
use Rattle.definition.specs.Nesting.{parent_allowed}
use Rattle.definition.specs.Rows.{Table, Numbers, current_state, parent_tag}
use Rattle.definition.specs.Look.{Look}
use Rattle.definition.specs.Change.{Put, Which, numbers, shape, Edit, add, alter, Change, Outcome, done, refuse, also, adding, altering, drawn, add_member, add_members, add_words_from, add_words, unless_zero, shape_of, edited_by}
use Rattle.definition.specs.States.{own_state}
use Rattle.definition.proofs.Changes.{edits_append}
use Rattle.definition.proofs.Base.{and_both}
use Rattle.reached.proofs.Tables.{among_within, among_not, within}
use Rattle.reached.proofs.Edits.{safe_shape, safe_texts, safe_edit, safe_edits, safe_append, shapes_safe}
use Rattle.reached.proofs.Stack.{holders, inner, outer, Place, Idle, Live, Bare, head_of, must_live, must_idle}
use Rattle.reached.proofs.Growth.{RootOf, Fact, HasState, Grows, edits_grow, fact_grows}
use Rattle.reached.proofs.Reached.{Reached, tags_of, after, parent_is, inner_fact, root_back}

-- ---- steps

pub record Step (g : ℕ) (c d : Change) : Type 0 where
  pub state : d.state ≡ c.state
  pub transition : d.transition ≡ c.transition
  pub regions : d.regions ≡ c.regions
  pub current : d.current ≡ c.current
  pub more : List Edit
  pub edits : d.edits ≡ c.edits ++ more
  pub added : safe_edits g more ≡ true

pub stay : (g : ℕ) (c : Change) → Step g c c
unfolding safe_edits
stay g c = record { state = refl; transition = refl; regions = refl; current = refl; more = []; edits = sym (append-nil c.edits); added = refl }

pub then : (g : ℕ) (c d e : Change) → Step g c d → Step g d e → Step g c e
then g c d e S T =
    record {
      state = T.state ∙ S.state;
      transition = T.transition ∙ S.transition;
      regions = T.regions ∙ S.regions;
      current = T.current ∙ S.current;
      more = S.more ++ T.more;
      edits = T.edits ∙ ap {B = List Edit} (λ x. x ++ T.more) S.edits ∙ append_assoc c.edits S.more T.more;
      added = safe_append g S.more T.more S.added T.added;
    }

pub safe_step : (g : ℕ) (c d : Change) → Step g c d → safe_edits g c.edits ≡ true → safe_edits g d.edits ≡ true
safe_step g c d S s = subst (λ (x : List Edit). safe_edits g x ≡ true) (sym S.edits) (safe_append g c.edits S.more s S.added)

pub one_safe : (g : ℕ) (e : Edit) → safe_edit g e ≡ true → safe_edits g (e ∷ []) ≡ true
unfolding safe_edits
one_safe g e s = and_both (safe_edit g e) true s refl

pub step_also : (g : ℕ) (e : Edit) (c : Change) → safe_edit g e ≡ true → Step g c (also e c)
unfolding also
step_also g e c s = record { state = refl; transition = refl; regions = refl; current = refl; more = e ∷ []; edits = refl; added = one_safe g e s }

pub step_adding : (g : ℕ) (w : Which) (ps : List Put) (c : Change) → safe_shape (shape_of g w) ≡ true → Step g c (adding w ps c)
unfolding adding safe_edit
step_adding g w ps c s = step_also g (add w 0 ps) c s

pub step_shape : (g i : ℕ) (ps : List Put) (c : Change) → Step g c (adding (shape i) ps c)
unfolding shape_of
step_shape g i ps c = step_adding g (shape i) ps c (shapes_safe g i)

pub step_altering : (g : ℕ) (w : Which) (i : ℕ) (ps : List Put) (c : Change) → safe_edit g (alter w i ps) ≡ true → Step g c (altering w i ps c)
unfolding altering
step_altering g w i ps c s = step_also g (alter w i ps) c s

pub step_drawn : (g i d : ℕ) (c : Change) → Step g c (drawn i d c)
unfolding drawn safe_edits
step_drawn g i d c = record { state = refl; transition = refl; regions = refl; current = refl; more = []; edits = sym (append-nil c.edits); added = refl }

pub step_member : (g k o v : ℕ) (c : Change) → Step g c (add_member k o v c)
unfolding add_member safe_shape shape_of among safe_texts
step_member g k o v c = step_adding g (numbers 8) _ c refl

pub step_members : (g k o : ℕ) (vs : List ℕ) (c : Change) → Step g c (add_members k o vs c)
unfolding add_members
step_members g k o [] c = stay g c
step_members g k o (v ∷ vs) c = then g c (add_member k o v c) (add_members k o vs (add_member k o v c)) (step_member g k o v c) (step_members g k o vs (add_member k o v c))

pub step_words_from : (g i k o j m : ℕ) (c : Change) → Step g c (add_words_from (shape i) k o j m c)
unfolding add_words_from safe_edit shape_of
step_words_from g i k o j zero c = stay g c
step_words_from g i k o j (suc m) c =
    then g c (also (add (shape i) j _) c) (add_words_from (shape i) k o (suc j) m (also (add (shape i) j _) c)) (step_also g (add (shape i) j _) c (shapes_safe g i)) (
    step_words_from g i k o (suc j) m (also (add (shape i) j _) c))

pub step_words : (g i k o m : ℕ) (c : Change) → Step g c (add_words (shape i) k o m c)
unfolding add_words
step_words g i k o m c = step_words_from g i k o 0 m c

-- ---- outcomes

unfoldable pub Fine : (Change → Type 0) → Outcome → Type 0
Fine P (done c) = P c
Fine P (refuse k) = ¬ (k ≡ 2)

pub fine_unless : (P : Change → Type 0) (x : ℕ) (o : Outcome) → ¬ (x ≡ 0) → Fine P o → Fine P (unless_zero x o)
unfolding unless_zero
fine_unless P zero o h f = absurd (h refl)
fine_unless P (suc i) o h f = f

-- ---- what a start is told, and what it must give

pub record Asked (n : Numbers) (l : Look) (g : ℕ) : Type 0 where
  pub tag : l.tag ≡ g
  pub allowed : parent_allowed g (parent_tag n) ≡ true
  pub first : g ≡ 1 → RootOf n.tables ≡ 0
  pub own : names_state g ≡ true → HasState n.tables (own_state l)

pub record Good (g : ℕ) (n : Numbers) (l : Look) (R : Reached n) (c : Change) : Type 0 where
  pub safe : safe_edits g c.edits ≡ true
  pub fact : Fact (after l c n) g c.state c.transition
  pub root : RootOf (after l c n) ≡ 0 → not (among g holders) ≡ true
  pub place : Place (get_or (after l c n) 4 []) (g ∷ tags_of R.os) c.regions c.current

abbrev pub StartOk : ℕ → (Numbers → Look → Outcome) → Type 0
StartOk g h = (n : Numbers) (l : Look) (R : Reached n) → Asked n l g → Fine (Good g n l R) (h n l)

pub after_grows : (g : ℕ) (n : Numbers) (l : Look) (c : Change) → l.tag ≡ g → safe_edits g c.edits ≡ true → Grows n.tables (after l c n)
after_grows g n l c e s = edits_grow l c.edits n.tables (subst (λ (x : ℕ). safe_edits x c.edits ≡ true) (sym e) s)

pub step_grows : (g : ℕ) (n : Numbers) (l : Look) (c d : Change) → l.tag ≡ g → Step g c d → Grows (after l c n) (after l d n)
step_grows g n l c d e S =
    subst (λ (x : List Table). Grows (after l c n) x) (sym (ap (λ (x : List Edit). edited_by l x n.tables) S.edits ∙ edits_append l c.edits S.more n.tables)) (
    edits_grow l S.more (after l c n) (subst (λ (x : ℕ). safe_edits x S.more ≡ true) (sym e) S.added))

-- Where the facts hold already.
pub good : (g : ℕ) (n : Numbers) (l : Look) (R : Reached n) (c : Change) → l.tag ≡ g → safe_edits g c.edits ≡ true → Fact n.tables g c.state c.transition
    → (RootOf n.tables ≡ 0 → not (among g holders) ≡ true) → Place (get_or (after l c n) 4 []) (g ∷ tags_of R.os) c.regions c.current → Good g n l R c
good g n l R c e s f r p =
    let G : Grows n.tables (after l c n) = after_grows g n l c e s in
    record {
      safe = s;
      fact = fact_grows n.tables (after l c n) g c.state c.transition G f;
      root = λ z. r (root_back n.tables (after l c n) G z);
      place = p;
    }

-- A fact of a tag that asks for nothing.
pub leaf_fact : (ts : List Table) (g s t : ℕ) → not (among g holders) ≡ true → Fact ts g s t
unfolding within among
leaf_fact ts g s t e =
    record {
      known = λ m. absurd (among_not holders g g e m refl);
      going = λ q. absurd (among_not holders g 16 e refl q);
      invoked = λ m. absurd (among_not holders g g e (among_within (8 ∷ 11 ∷ []) holders g refl m) refl);
      done = λ q. absurd (among_not holders g 10 e refl q);
    }

-- A fact of a tag that asks for a state only.
pub state_fact : (ts : List Table) (g s t : ℕ) → not (among g (8 ∷ 10 ∷ 11 ∷ 16 ∷ [])) ≡ true → HasState ts s → Fact ts g s t
unfolding within among
state_fact ts g s t e h =
    record {
      known = λ m. h;
      going = λ q. absurd (among_not (8 ∷ 10 ∷ 11 ∷ 16 ∷ []) g 16 e refl q);
      invoked = λ m. absurd (among_not (8 ∷ 10 ∷ 11 ∷ 16 ∷ []) g g e (among_within (8 ∷ 11 ∷ []) (8 ∷ 10 ∷ 11 ∷ 16 ∷ []) g refl m) refl);
      done = λ q. absurd (among_not (8 ∷ 10 ∷ 11 ∷ 16 ∷ []) g 10 e refl q);
    }

-- ---- the parent is one of some

bare_head : (gs : List ℕ) → Bare gs → among (head_of gs) holders ≡ true → ⊥
unfolding Bare head_of among
bare_head [] b h = false≢true h
bare_head (g ∷ gs) b h = among_not holders g g b.0 h refl

module _ (n : Numbers) (R : Reached n) (ps : List ℕ) (m : among (parent_tag n) ps ≡ true) where
  head_in : among (head_of (tags_of R.os)) ps ≡ true
  head_in = subst (λ (x : ℕ). among x ps ≡ true) (parent_is n R) m

  pub in_outer : within ps outer ≡ true → Idle (tags_of R.os)
  in_outer w = must_idle _ (tags_of R.os) _ n.current R.place (among_within ps outer (head_of (tags_of R.os)) w head_in)

  pub in_inner : within ps inner ≡ true → Live (tags_of R.os) (reverse (get_or n.tables 11 [])) n.current
  in_inner w = must_live _ (tags_of R.os) _ n.current R.place (among_within ps inner (head_of (tags_of R.os)) w head_in)

  pub in_state_lem : within ps holders ≡ true → HasState n.tables (current_state n)
  in_state_lem w = (inner_fact n R).known (among_within ps holders (parent_tag n) w m)

  pub in_rooted : within ps holders ≡ true → RootOf n.tables ≡ 0 → ⊥
  in_rooted w z = go (tags_of R.os) (R.begun z) head_in
    where
      go : (gs : List ℕ) → Bare gs → among (head_of gs) ps ≡ true → ⊥
      go gs b h = bare_head gs b (among_within ps holders (head_of gs) w h)
