-- The starts of else, elseif, send, param and content.
use Prim.Native.Nat.{ℕ, zero, suc}
use mathlib.Core.Path.{◌≡◌, refl, sym, ap, ◌∙◌, subst}
use mathlib.Core.Bool.{true, not}
use mathlib.Core.Option.{Option, some}
use mathlib.Core.List.{List, [], ◌∷◌, ◌++◌, reverse}
use lib.ListN.{length, get_or, set, length-set}
use lib.Seq.{get_or-set_same, get_or-append_seam}
use native.Mathlib.Nat.{zero-add}
use native.Mathlib.Omega.{arith}
use Rattle.definition.specs.Elements.{among, key}
use Rattle.definition.specs.Nesting.{parent_allowed, allowed_in, nesting}
use Rattle.definition.specs.Rows.{Row, Table, num, row_of, blank, columns_of, Numbers, current_state, parent_tag}
use Rattle.definition.specs.Shapes.{Shape, shape_at, shapes_in, shapes_by_element}
use Rattle.definition.specs.Look.{Look}
use Rattle.definition.specs.Change.{Put, ◌≔◌, numbers, shape, add, Change, Outcome, also, adding, altering, next_id, add_words_from, add_words, open_region_row, region_over, nested_region, Closed, closed_by, on_closed, closing, shape_of, nothing, edited_by, filled_by, put_all, put_one, words_of}
use Rattle.definition.specs.Actions.{new_entry, Walk, meets, nowhere, no_if, walk_from, walked, branch, start_else, else_if_branch, start_else_if, start_send}
use Rattle.definition.proofs.Changes.{edits_append}
use Rattle.reached.proofs.Tables.{within, last_added}
use Rattle.reached.proofs.Edits.{guarded, safe_shape, safe_put, safe_puts, safe_texts, safe_edit, safe_edits, fill_length}
use Rattle.reached.proofs.Stack as St
use Rattle.reached.proofs.Stack.{holders, blocks, Place, under, branched, Live, LastSend, sent, leaf, Under, head_of, on_live, live_current, Closes, close_block}
use Rattle.reached.proofs.Growth.{Fact, HasState, set_other}
use Rattle.reached.proofs.Reached.{Reached, tags_of, after, parent_is}
use Rattle.reached.proofs.Steps.{Step, then, safe_step, step_shape, step_words, Fine, fine_unless, Good, StartOk, good, leaf_fact, state_fact, in_inner, in_state_lem, in_rooted}
use Rattle.reached.proofs.Effects.{edit_add, shape_is, num_other}
use Rattle.reached.proofs.RegionStarts.{none_safe, only_one}

-- ---- closing goes on

abbrev pub closed_to : Change → Closed → Change
closed_to c x =
    record {
      edits = c.edits;
      regions = x.regions;
      current = x.current;
      ids = c.ids;
      docs = c.docs;
      state = c.state;
      transition = c.transition;
    }

pub fine_closing : (P : Change → Type 0) (g : ℕ) (c : Change) (next : Change → Outcome) (x : Closed) → closed_by g c.regions c.current ≡ some x → Fine P (next (closed_to c x)) → Fine P (closing g c next)
unfolding closing on_closed
fine_closing P g c next x e f = subst (λ (o : Option Closed). Fine P (on_closed o c next)) (sym e) f

fine_walked : (P : Change → Type 0) (w : Walk) (r : ℕ) (d : Change) → P d → ((e : ℕ) → P (altering (numbers 4) e (4 ≔ r ∷ []) d)) → Fine P (walked w r d)
unfolding walked Fine
fine_walked P (meets e) r d p q = q e
fine_walked P nowhere r d p q = p
fine_walked P no_if r d p q = omega arith

-- ---- else and elseif

-- The innermost if's region is closed, and one or two others take its place.
record Reopens (gs : List ℕ) (regs : List Row) (cur : ℕ) : Type 0 where
  c : ℕ
  rs : List Row
  closed : closed_by 24 regs cur ≡ some (record { current = suc c; regions = rs })
  again : (k : ℕ) → Live gs (open_region_row (suc c) 24 ∷ rs) (suc k)
  twice : (d k : ℕ) → Live gs (open_region_row (suc d) 13 ∷ open_region_row (suc c) 24 ∷ rs) (suc k)

reopens : (gs : List ℕ) (regs : List Row) (cur : ℕ) → head_of gs ≡ 24 → Live gs regs cur → Reopens gs regs cur
unfolding Live head_of among
reopens [] regs cur e L = absurd L
reopens (g ∷ gs) regs cur e L =
    let m : among g blocks ≡ true = rw e refl in
    let C : Closes g gs regs cur = close_block g gs regs cur m L in
    record {
      c = C.c;
      rs = C.rs;
      closed = subst (λ (x : ℕ). closed_by x regs cur ≡ some (record { current = suc C.c; regions = C.rs })) e C.closed;
      again = λ k. (omega arith, St.block C.rs C.c m (ap {B = List Row} (λ x. open_region_row (suc C.c) x ∷ C.rs) (sym e)) C.left);
      twice = λ d k. (omega arith, branched C.rs C.c d e refl C.left);
    }

good_on_live : (g : ℕ) (n : Numbers) (l : Look) (R : Reached n) (c : Change) → l.tag ≡ g → not (among g holders) ≡ true → safe_edits g c.edits ≡ true → Live (tags_of R.os) c.regions c.current → Good g n l R c
unfolding Under
good_on_live g n l R c e o s L = good g n l R c e s (leaf_fact n.tables g _ _ o) (λ z. o) (under (leaf o (on_live _ (tags_of R.os) _ _ L)))

module _ (n : Numbers) (R : Reached n) (m : among (parent_tag n) (24 ∷ []) ≡ true) where
  reopened : Reopens (tags_of R.os) (reverse (get_or n.tables 11 [])) n.current
  unfolding within among
  reopened = reopens (tags_of R.os) _ n.current (sym (parent_is n R) ∙ only_one (parent_tag n) 24 m) (in_inner n R (24 ∷ []) m refl)

pub start_else_lem : StartOk 12 start_else
unfolding start_else branch nested_region region_over altering also nothing parent_allowed allowed_in nesting within among safe_edits safe_edit safe_shape safe_puts safe_put safe_texts guarded shape_of
start_else_lem n l R A =
    let O : Reopens (tags_of R.os) (reverse (get_or n.tables 11 [])) n.current = reopened n R A.allowed in
    let x : Closed = record { current = suc O.c; regions = O.rs } in
    let c : Change = closed_to (nothing n) x in
    fine_closing _ 24 (nothing n) _ x O.closed (
    fine_walked _ (walk_from n (suc O.c)) (next_id c) (nested_region 24 c) (good_on_live 12 n l R (nested_region 24 c) A.tag refl refl (O.again n.ids)) (λ e.
    good_on_live 12 n l R (altering (numbers 4) e (4 ≔ next_id c ∷ []) (nested_region 24 c)) A.tag refl refl (O.again n.ids)))

pub start_elseif : StartOk 13 start_else_if
unfolding start_else_if branch else_if_branch new_entry adding nested_region region_over altering also nothing next_id parent_allowed allowed_in nesting within among safe_edits safe_edit safe_shape safe_puts safe_put safe_texts guarded shape_of shape_at shapes_in shapes_by_element
start_elseif n l R A =
    let O : Reopens (tags_of R.os) (reverse (get_or n.tables 11 [])) n.current = reopened n R A.allowed in
    let x : Closed = record { current = suc O.c; regions = O.rs } in
    let c : Change = closed_to (nothing n) x in
    fine_closing _ 24 (nothing n) _ x O.closed (
    fine_walked _ (walk_from n (suc O.c)) (next_id c) (else_if_branch c) (good_on_live 13 n l R (else_if_branch c) A.tag refl refl (O.twice n.ids (suc n.ids))) (λ e.
    good_on_live 13 n l R (altering (numbers 4) e (4 ≔ next_id c ∷ []) (else_if_branch c)) A.tag refl refl (O.twice n.ids (suc n.ids))))

-- ---- send

-- Words go to the members, and the entries stay.
words_entries : (l : Look) (k o j m : ℕ) (c : Change) (ts : List Table) (h : Shape) → shape_of l.tag (shape 1) ≡ h → h.into ≡ 8
    → get_or (edited_by l (add_words_from (shape 1) k o j m c).edits ts) 4 [] ≡ get_or (edited_by l c.edits ts) 4 []
unfolding add_words_from also edited_by
words_entries l k o j zero c ts h e i = refl
words_entries l k o j (suc m) c ts h e i =
    words_entries l k o (suc j) m (also (add (shape 1) j (0 ≔ k ∷ 1 ≔ o ∷ [])) c) ts h e i
    ∙ ap (λ (x : List Table). get_or x 4 []) (edits_append l c.edits (add (shape 1) j (0 ≔ k ∷ 1 ≔ o ∷ []) ∷ []) ts)
    ∙ ap (λ (x : List Table). get_or x 4 []) (edit_add l (shape 1) j (0 ≔ k ∷ 1 ≔ o ∷ []) (edited_by l c.edits ts) h e)
    ∙ set_other (edited_by l c.edits ts) h.into 4 _ (omega arith)

put_send : (u s : ℕ) (r : Row) → length r ≡ length (blank 4) → (num (put_all (columns_of 4) (0 ≔ u ∷ 1 ≔ 5 ∷ 2 ≔ s ∷ []) r) 0 ≡ u) × (num (put_all (columns_of 4) (0 ≔ u ∷ 1 ≔ 5 ∷ 2 ≔ s ∷ []) r) 1 ≡ 5)
unfolding put_all put_one columns_of blank
put_send u s r w = (
  num_other (set (set r 0 u) 1 5) 2 0 s (omega arith) ∙ num_other (set r 0 u) 1 0 5 (omega arith) ∙ get_or-set_same r 0 u 0 (omega arith),
  num_other (set (set r 0 u) 1 5) 2 1 s (omega arith) ∙ get_or-set_same (set r 0 u) 1 5 0 (let z : length (set r 0 u) ≡ length r = length-set r 0 u in omega arith),
)

last_is_send : (E : Table) (r : Row) (u : ℕ) → num r 0 ≡ u → num r 1 ≡ 5 → LastSend (E ++ r ∷ []) u
unfolding LastSend row_of
last_is_send E r u e f = rw (last_added 0 u 0 0 E r e, zero-add (length E), get_or-append_seam E r [] []) f

send_last : (n : Numbers) (l : Look) (R : Reached n) → l.tag ≡ 19 → (k m : ℕ) → LastSend (get_or (after l (add_words (shape 1) 8 k m (new_entry 0 5 (2 ≔ current_state n ∷ []) (nothing n))) n) 4 []) n.current
unfolding new_entry adding also nothing edited_by add_words shape_of shape_at shapes_in shapes_by_element
send_last n l R e k m =
    let H : Shape = shape_of 19 (shape 0) in
    let ps : List Put = 0 ≔ n.current ∷ 1 ≔ 5 ∷ 2 ≔ current_state n ∷ [] in
    let r₀ : Row = filled_by l 0 H.texts (blank 4) in
    let r : Row = put_all (columns_of 4) ps r₀ in
    let E : Table = get_or n.tables 4 [] in
    let p : (num r 0 ≡ n.current) × (num r 1 ≡ 5) = put_send n.current (current_state n) r₀ (fill_length l 0 H.texts (blank 4)) in
    let z : length n.tables ≡ 12 = R.solid.size in
    subst (λ (x : Table). LastSend x n.current) (sym (
    words_entries l 8 k 0 m (new_entry 0 5 (2 ≔ current_state n ∷ []) (nothing n)) n.tables (shape_of 19 (shape 1)) (shape_is l 19 (shape 1) e) refl
    ∙ ap (λ (x : List Table). get_or x 4 []) (edit_add l (shape 0) 0 ps n.tables H (shape_is l 19 (shape 0) e))
    ∙ get_or-set_same n.tables 4 (E ++ r ∷ []) [] (omega arith))) (last_is_send E r n.current p.0 p.1)

pub start_send_lem : StartOk 19 start_send
unfolding start_send Fine new_entry adding also nothing edited_by add_words Under parent_allowed allowed_in nesting within among shape_of shape_at shapes_in shapes_by_element
start_send_lem n l R A =
    let ps : List ℕ = 16 ∷ 18 ∷ 17 ∷ 24 ∷ 25 ∷ [] in
    let m : among (parent_tag n) ps ≡ true = A.allowed in
    let h : HasState n.tables (current_state n) = in_state_lem n R ps m refl in
    let L : Live (tags_of R.os) (reverse (get_or n.tables 11 [])) n.current = in_inner n R ps m refl in
    let c₁ : Change = new_entry 0 5 (2 ≔ current_state n ∷ []) (nothing n) in
    let k : ℕ = suc (length (get_or n.tables 4 [])) in
    let c : Change = add_words (shape 1) 8 k (length (words_of l key.namelist)) c₁ in
    let S : Step 19 (nothing n) c = then 19 (nothing n) c₁ c (step_shape 19 0 (0 ≔ n.current ∷ 1 ≔ 5 ∷ 2 ≔ current_state n ∷ []) (nothing n)) (step_words 19 1 8 k (length (words_of l key.namelist)) c₁) in
    fine_unless _ (current_state n) _ h.0 (fine_unless _ n.current _ (live_current (tags_of R.os) _ n.current L) (
    good 19 n l R c A.tag (safe_step 19 (nothing n) c S (none_safe 19 n)) (subst (λ (x : ℕ). Fact n.tables 19 x c.transition) (sym S.state) (state_fact n.tables 19 (current_state n) _ refl h)) (
    λ q. absurd (in_rooted n R ps m refl q)) (
    subst (λ (x : ℕ). Place (get_or (after l c n) 4 []) (19 ∷ tags_of R.os) c.regions x) (sym S.current) (
    subst (λ (x : List Row). Place (get_or (after l c n) 4 []) (19 ∷ tags_of R.os) x n.current) (sym S.regions) (
    under (sent refl (send_last n l R A.tag k (length (words_of l key.namelist))) L))))))
