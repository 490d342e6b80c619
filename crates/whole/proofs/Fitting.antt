-- An accepted event: everything that is written has its place.
use Prim.Native.Nat.{ℕ, zero, suc, ◌+◌, ◌-◌, ◌≤◌, ◌<◌}
use mathlib.Core.Path.{◌≡◌, refl, sym, ap, ap₂, ◌∙◌, subst}
use mathlib.Core.Bool.{Bool, true, ◌&&◌}
use mathlib.Core.List.{List, [], ◌∷◌, ◌++◌, map, append_assoc}
use native.Mathlib.Omega.{arith}
use lib.Dec.{leb}
use lib.ListN.{length, get_or, take, drop, set, length-append, length-take, length-drop, length-map, length-set}
use lib.Seq.{length-take-le}
use Rattle.definition.specs.declared.Position.{Position}
use Rattle.definition.specs.Limits.{limits01}
use Rattle.definition.specs.Text.{Piece}
use Rattle.definition.specs.Elements.{tag_of}
use Rattle.definition.specs.Event.{Event, keys_differ, in_form}
use Rattle.definition.specs.Rows.{Row, Table, Numbers, Store, table_of}
use Rattle.definition.specs.Look.{Load, Look, look, loads_of, payload, fields_from, name_cells, resolve, text_after}
use Rattle.definition.specs.Change.{entered}
use Rattle.definition.specs.Rules.{keeps_rules, chart_limits, names_lead}
use Rattle.definition.specs.Reader.{Lent, counts, taken, store_of, all_at_most, questions, first_no}
use Rattle.definition.specs.Event.{kind_fits}
use Rattle.definition.specs.Rows.{Cell}
use Rattle.definition.specs.Change.{state_row}
use Rattle.definition.proofs.Base as D
use Rattle.definition.proofs.Places.{Fits}
use Rattle.plain.proofs.PlainLaw as Plain
use Rattle.definition.specs.Reader.{over, over_all, accept, decided, long_enough}
use Rattle.definition.specs.Change.{on_table, without_last}
use Rattle.payload.specs.Laid.{laid}
use Rattle.whole.specs.After.{opened_by, position_by, InRange}
use Rattle.texts.proofs.LookLaw.{fields_placed}
use Rattle.apply.specs.Applied.{rows_of, applied_in}
use Rattle.apply.proofs.Wordless.{Unworded, wordless}
use Rattle.std.proofs.lemmas.Option.{IfSome_then}
use Rattle.arena.specs.Storing.{owner_of}
use Rattle.tables.specs.Whole.{opens}
use Rattle.definition.specs.Reader.{position_of, rows_in}
use Rattle.definition.specs.Look.{one_if}
use Rattle.definition.proofs.Finds.{refs_length}
use Rattle.definition.proofs.Lending.{chart_there}
use Rattle.payload.proofs.PayloadLaw.{made_law}
use Rattle.plan.proofs.Fifteen.{transitions_count, regions_count, entries_count, invokes_count, datums_count, parameters_count}
use Rattle.plan.specs.After.{transitions_after, regions_after, entries_after, invokes_after, datums_after, parameters_after}
use Rattle.plan.specs.After.{applied, move_of, moved, chart_after, state_after, states_after, opened_after, open_regions_after, open_region_of, added_if}
use Rattle.plan.specs.Decided.{limited_p, decided_p}
use Rattle.planfacts.proofs.FactsOf.{decided_by_plan}
use Rattle.kept.proofs.RulesKept.{accepted_kept}
use Rattle.kept.proofs.Facts.{rules_from}
use Rattle.kept.proofs.EnteredOk.{known_of}
use Rattle.kept.proofs.Resolved.{leads_to, known_grow}
use Rattle.kept.proofs.Base.{and_left, and_right, le_of, false_is_true}
use Rattle.plain.specs.Plain.{parsed_of}
use Rattle.plan.specs.declared.Plan.{Plan}
use Rattle.plan.specs.Plan.{planned}
use Rattle.plan.specs.Plans.{plan_of}
use Rattle.plan.specs.After.{members_after}
use Rattle.plan.specs.Decided.{one_there, members_added, counts_after, stays_within}
use Rattle.plan.proofs.Fifteen.{states_entered}
use Rattle.plan.specs.Seen.{seen}
use Rattle.plan.specs.Heard.{heard}
use Rattle.plan.specs.Plans.{plan_by}
use Rattle.plan.specs.After.{member_after}
use Rattle.plan.proofs.Fifteen.{all_members, added_length, altered_length}
use Rattle.fill.specs.Fill.{texts_of}
use Rattle.wordlists.specs.Words.{set_all}
use Rattle.tables.proofs.Clean.{members_size, over_take, over_over}
use Rattle.wordlists.proofs.Clean.{all_clean}
use Rattle.targets.specs.Enter.{enter_all}
use Rattle.targets.specs.Enter as M
use Rattle.apply.proofs.Clean as C
use Rattle.apply.proofs.Clean.{listed as listed_members}
use Rattle.texts.specs.EventTexts.{event_texts}
use Rattle.wordlists.specs.Words.{word_rows_of}
use Rattle.targets.specs.Names.{pieces_in, skip_of, NameRoom, NamesWritten, OwnIn, TargetsIn}
use Rattle.arena.specs.Storing.{arena, texts, Storable, Stored}
use Rattle.arena.specs.declared.Written.{Written}
use Rattle.planfacts.proofs.Places.{Altered, altered}
use Rattle.planfacts.proofs.UseOf.{in_use}
use Rattle.arena.proofs.TextLaw.{event_texts_lem}
use Rattle.arena.proofs.Naming.{members_listed}
use Rattle.arena.proofs.Naming as N
use Rattle.planfacts.proofs.Listed.{Listed, Unlisted, listed, unlisted}
use Rattle.planfacts.proofs.Given.{Few, few, names_inside}
use Rattle.payload.specs.Payload.{made_in, payload_in}
use Rattle.payload.proofs.PayloadLaw.{covered, charge_law, payload_law}
use Rattle.whole.proofs.Sizes.{Fit, Sized, most_at}

-- An event e that is accepted in the lent slices, with the plan q.
module _ (p : Position) (a b c d f h i j k o y r : Table) (tx : List ℕ) (e : Event) (q : Plan) where
  abbrev x : Lent
  x = record { tables = a ∷ b ∷ c ∷ d ∷ f ∷ h ∷ i ∷ j ∷ k ∷ o ∷ y ∷ r ∷ []; text = tx }

  abbrev s : Store
  s = store_of x p

  abbrev n : Numbers
  n = s.numbers

  abbrev l : Look
  l = look s e

  module _ (Z : Sized p a b c d f h i j k o y r tx) (within : stays_within limits01 l q n ≡ true) where
    F : Few limits01 s
    F = few limits01 s Z.rules

    -- ---- the parts in use

    used_is : length s.text ≡ p.used
    unfolding store_of
    used_is = length-take-le p.used tx (omega (arith, Z.used, Z.text))

    states_are : length (table_of n 1) ≡ p.states
    unfolding store_of taken counts
    states_are = length-take-le p.states b (omega (arith, Z.states.0, Z.states.1))

    members_are : length (table_of n 8) ≡ p.members
    unfolding store_of taken counts
    members_are = length-take-le p.members k (omega (arith, Z.members.0, Z.members.1))

    -- ---- question 15

    abbrev counted : Bool
    counted = all_at_most (counts_after l q n) (chart_limits limits01)

    abbrev drawn : Bool
    drawn = leb q.counters.ids 65535 && leb q.counters.docs 65535 && leb (n.names + l.generated) 65535 && leb (n.charge + l.charge) 65535

    rows_within_lem : counted ≡ true
    unfolding stays_within
    rows_within_lem = and_left counted drawn within

    charge_within : n.charge + l.charge ≤ 65535
    unfolding stays_within
    charge_within =
        le_of (n.charge + l.charge) 65535 (and_right (leb q.counters.ids 65535 && leb q.counters.docs 65535 && leb (n.names + l.generated) 65535) (leb (n.charge + l.charge) 65535) (and_right counted drawn within))

    names_within : n.names + l.generated ≤ 65535
    unfolding stays_within
    names_within =
        le_of (n.names + l.generated) 65535 (and_right (leb q.counters.ids 65535 && leb q.counters.docs 65535) (leb (n.names + l.generated) 65535) (
        and_left (leb q.counters.ids 65535 && leb q.counters.docs 65535 && leb (n.names + l.generated) 65535) (leb (n.charge + l.charge) 65535) (and_right counted drawn within)))

    pub row_within : (t : ℕ) → t < 9 → get_or (counts_after l q n) t 0 ≤ get_or (chart_limits limits01) t 0
    unfolding counts_after chart_limits
    row_within t z = most_at (counts_after l q n) (chart_limits limits01) t rows_within_lem z z

    -- ---- the text

    pub payload_fits : p.used + length (payload_in (parsed_of e) p.names) ≤ 65535
    unfolding store_of
    payload_fits = omega (arith, charge_within, F.text, used_is, covered (parsed_of e) p.names, charge_law s e)

    -- ---- as the definition has it

    module _ (form : in_form limits01 e ≡ true) (differ : keys_differ e.attributes ≡ true) (plan : plan_of n l ≡ planned q) where
      abbrev g : ℕ
      g = tag_of e.name

      abbrev u : ℕ
      u = length s.text

      abbrev is : List Load
      is = loads_of g n.names e

      abbrev T : List ℕ
      T = s.text ++ payload is

      abbrev t : List ℕ
      t = texts_of u (fields_from g u is)

      inside : D.All (λ (z : Cell). Fits (length s.text) z.at z.len) (name_cells (table_of n 1))
      inside = names_inside limits01 s Z.rules

      pub arena_eq : arena p (parsed_of e) tx ≡ T
      unfolding store_of
      arena_eq = ap (λ (z : List ℕ). take p.used tx ++ z) (payload_law e p.names)

      pub texts_eq : texts p (parsed_of e) ≡ t
      unfolding store_of
      texts_eq = ap (λ (z : ℕ). event_texts z p.names (parsed_of e)) (sym used_is) ∙ event_texts_lem e p.names u

      -- ---- the plan's lists

      kind_le : e.kind ≤ 3
      kind_le = go e.kind (Plain.form e form).kind
        where
          go : (z : ℕ) → kind_fits z e ≡ true → z ≤ 3
          go zero w = omega arith
          go (suc zero) w = omega arith
          go (suc (suc zero)) w = omega arith
          go (suc (suc (suc zero))) w = omega arith
          go (suc (suc (suc (suc z)))) w = false_is_true (unfold kind_fits in w)

      begins : (e.kind ≡ 3 → ⊥) → Listed g (heard l) q
      unfolding plan_of heard look
      begins z = listed (seen n l) (heard l) e.kind g (low e.kind kind_le z) q plan
        where
          low : (m : ℕ) → m ≤ 3 → (m ≡ 3 → ⊥) → m ≤ 2
          low zero h w = omega arith
          low (suc zero) h w = omega arith
          low (suc (suc zero)) h w = omega arith
          low (suc (suc (suc zero))) h w = absurd (w refl)
          low (suc (suc (suc (suc m)))) h w = absurd (omega arith)

      ends : e.kind ≡ 3 → Unlisted q
      unfolding plan_of heard look
      ends z = unlisted (seen n l) (heard l) 0 g q (sym (ap (λ (m : ℕ). plan_by m g (seen n l) (heard l)) z) ∙ plan)

      abbrev w : List Row
      w = word_rows_of g T t q.members.words

      abbrev pieces : List Piece
      pieces = pieces_in e.kind g T t

      abbrev skip : ℕ
      skip = skip_of e.kind g

      pub listed_is : listed_members l q p.members k ≡ (take p.members k ++ w) ++ map (M.member_row 6 (owner_of q.members.targets)) (drop skip (resolve T (name_cells (table_of n 1)) pieces).refs)
      listed_is = members_listed s e form differ inside q (take p.members k) begins ends

      size_listed : length (listed_members l q p.members k) + one_there q.members.one + one_there q.members.two ≡ length (table_of n 8) + members_added l q.members
      unfolding members_after store_of taken counts
      size_listed =
          sym (omega (arith, members_size q.members.two (member_after q.members.one (listed_members l q p.members k)), members_size q.members.one (listed_members l q p.members k)))
          ∙ all_members l q.members (table_of n 8)

      pub listed_fits : length (listed_members l q p.members k) + one_there q.members.one + one_there q.members.two ≤ 4096
      unfolding counts_after chart_limits
      listed_fits = let z : length (table_of n 8) + members_added l q.members ≤ 4096 = row_within 8 (omega arith) in omega (arith, size_listed, z)

      lengths_listed : length (listed_members l q p.members k) ≡ p.members + length w + length (drop skip pieces)
      lengths_listed =
          let rs : List ℕ = (resolve T (name_cells (table_of n 1)) pieces).refs in
          omega (
            arith,
            ap length listed_is,
            length-append (take p.members k ++ w) (map (M.member_row 6 (owner_of q.members.targets)) (drop skip rs)),
            length-append (take p.members k) w,
            members_are',
            length-map (drop skip rs) (M.member_row 6 (owner_of q.members.targets)),
            length-drop skip rs,
            refs_length T (name_cells (table_of n 1)) pieces,
            length-drop skip pieces,
          )
        where
          members_are' : length (take p.members k) ≡ p.members
          members_are' = length-take-le p.members k (omega (arith, Z.members.0, Z.members.1))

      pub entered_is : enter_all T (table_of n 1) pieces ≡ table_of (entered l n) 1
      entered_is = N.states_entered s e form differ inside (omega (arith, F.twelve))

      pub entered_fits : length (table_of (entered l n) 1) ≤ 256
      unfolding counts_after chart_limits
      entered_fits =
          let z : length (table_of n 1) + length (drop (length (table_of n 1)) l.known) ≤ 256 = row_within 1 (omega arith) in
          omega (arith, z, ap length (states_entered limits01 l q n 0 F.twelve), length-append (table_of n 1) (map state_row (drop (length (table_of n 1)) l.known)), length-map (drop (length (table_of n 1)) l.known) state_row)

      -- ---- what write_texts asks

      set_length : (z : Table) (m : ℕ) (rs : List Row) → length (set_all z m rs) ≡ length z
      unfolding set_all
      set_length z m [] = refl
      set_length z m (x' ∷ rs) = set_length (set z m x') (suc m) rs ∙ length-set z m x'

      abbrev Room : List ℕ → List ℕ → Type 0
      Room A X =
          NameRoom b (set_all k p.members (word_rows_of g A X q.members.words)) A p.states (p.members + length (word_rows_of g A X q.members.words)) skip (pieces_in e.kind g A X)

      text_short : length T ≤ 65535
      text_short = omega (arith, ap length (sym arena_eq), length-append (take p.used tx) (payload_in (parsed_of e) p.names), length-take p.used tx, payload_fits)

      -- the names in use lie in the text before the event: they are distinct in the text after it too
      names_apart : names_lead T (name_cells (table_of n 1)) 0 (name_cells (table_of n 1)) ≡ true
      names_apart =
          let cs : List Cell = name_cells (table_of n 1) in
          leads_to T cs 0 cs (known_grow s.text (payload is) cs (known_of limits01 s.text n (rules_from limits01 s Z.rules).1)).leads

      room_here : Room T t
      unfolding store_of taken counts
      room_here =
          record {
            short = text_short;
            long = Z.states.1;
            fits = Z.states.0;
            states = omega (arith, ap length entered_is, entered_fits);
            members = omega (arith, lengths_listed, listed_fits, set_length k p.members w, Z.members.1);
            apart = names_apart;
          }

      to_parts : (P : List ℕ → List ℕ → Type 0) → P T t → P (arena p (parsed_of e) tx) (texts p (parsed_of e))
      to_parts P h = subst (λ (z : List ℕ). P z (texts p (parsed_of e))) (sym arena_eq) (subst (P T) (sym texts_eq) h)

      pub storable : (made : Bool) → made ≡ made_in (parsed_of e) → Storable p (parsed_of e) b k tx made q.members
      unfolding parsed_of
      storable made em =
          record {
            drawn = unfold store_of in F.names;
            generated = em;
            room = omega (arith, payload_fits, Z.text);
            small = payload_fits;
            members = omega (arith, Z.members.0);
            listed = to_parts (λ A X. p.members + length (word_rows_of g A X q.members.words) ≤ 65535) (omega (arith, lengths_listed, listed_fits));
            names = to_parts Room room_here;
            own = to_parts (OwnIn e.kind g) (N.own_given s e form differ inside);
            targets = to_parts TargetsIn (N.targets_given s e form differ inside);
          }

      -- ---- the store after the event

      module _ (first : first_no (questions limits01 n l) ≡ 0) (long : long_enough limits01 x ≡ true) where
        abbrev m : ℕ
        m = move_of e.kind

        abbrev after : Numbers
        after = applied m l q (entered l n)

        is_accepted : decided limits01 n l ≡ accept after
        unfolding look
        is_accepted = decided_by_plan limits01 s e Z.rules (chart_there limits01 x p long) ∙ by_plan
          where
            by_plan : decided_p limits01 n l ≡ accept after
            by_plan = unfold decided_p limited_p in rw (first, decided_p, plan, limited_p, within)

        rules_after : keeps_rules limits01 (record { numbers = after; text = text_after s e }) ≡ true
        rules_after = accepted_kept limits01 s e refl Z.rules form after is_accepted

        G : Few limits01 (record { numbers = after; text = text_after s e })
        G = few limits01 (record { numbers = after; text = text_after s e }) rules_after

        -- ---- what write_texts has left

        from_parts : (P : List ℕ → List ℕ → Type 0) → P (arena p (parsed_of e) tx) (texts p (parsed_of e)) → P T t
        from_parts P z = subst (P T) texts_eq (subst (λ (v : List ℕ). P v (texts p (parsed_of e))) arena_eq z)

        module _ (st' ms' : Table) (tx' t' : List ℕ) (z : Written) (W : Stored p (parsed_of e) b k tx q.members st' ms' tx' t' z) where
          abbrev E : Table
          E = table_of (entered l n) 1

          abbrev L : Table
          L = listed_members l q p.members k

          abbrev Named : List ℕ → List ℕ → Type 0
          Named A X =
              NamesWritten b (set_all k p.members (word_rows_of g A X q.members.words)) A p.states (p.members + length (word_rows_of g A X q.members.words)) (owner_of q.members.targets) skip (pieces_in e.kind g A X) st' ms' z.states z.members

          named : Named T t
          unfolding parsed_of
          named = from_parts Named W.names

          pub states_now : st' ≡ over E b
          unfolding store_of taken counts
          states_now = named.states ∙ ap (λ (v : Table). over v b) entered_is

          pub count_now : z.states ≡ length E
          unfolding store_of taken counts
          count_now = named.counted ∙ ap length entered_is

          words_fit : p.members + length w ≤ length k
          words_fit = omega (arith, lengths_listed, listed_fits, Z.members.1)

          words_over : set_all k p.members w ≡ over (take p.members k ++ w) k
          words_over = all_clean p.members w k words_fit

          words_size : length (take p.members k ++ w) ≡ p.members + length w
          words_size = length-append (take p.members k) w ∙ ap (λ (v : ℕ). v + length w) (length-take-le p.members k (omega (arith, Z.members.0, Z.members.1)))

          words_taken_lem : take (p.members + length w) (set_all k p.members w) ≡ take p.members k ++ w
          words_taken_lem = ap₂ take (sym words_size) words_over ∙ over_take (take p.members k ++ w) k

          pub members_now : ms' ≡ over L k
          unfolding store_of taken counts
          members_now =
              named.members
              ∙ ap (λ (v : Table). over (v ++ map (M.member_row 6 (owner_of q.members.targets)) (drop skip (resolve T (name_cells (table_of n 1)) pieces).refs)) (set_all k p.members w)) words_taken_lem
              ∙ ap₂ over (sym listed_is) words_over ∙ over_over L (take p.members k ++ w) k (omega (arith, words_size, lengths_listed))

          pub listed_now : z.members ≡ length L
          listed_now = named.filled ∙ sym lengths_listed

          -- ---- what apply asks

          abbrev rows : Position
          rows = rows_of p z.members

          A : Altered q (length l.known) (length (table_of n 2)) (length (table_of n 4)) (length (table_of n 5)) (length (table_of n 6)) (length (table_of n 11))
          unfolding plan_of look
          A = altered (seen n l) (heard l) _ _ _ _ _ _ (in_use limits01 s e Z.rules) e.kind g q plan

          known_le : length l.known ≤ length E
          known_le =
              omega (
                arith,
                ap length (states_entered limits01 l q n 0 F.twelve),
                length-append (table_of n 1) (map state_row (drop (length (table_of n 1)) l.known)),
                length-map (drop (length (table_of n 1)) l.known) state_row,
                length-drop (length (table_of n 1)) l.known,
              )

          last_length : (ts : Table) → length (without_last ts) ≡ length ts - 1
          unfolding without_last
          last_length [] = refl
          last_length (v ∷ []) = refl
          last_length (v ∷ v' ∷ ts) = omega (arith, last_length (v' ∷ ts))

          over_long : (us ts : Table) → length us ≤ length (over us ts)
          unfolding over
          over_long us ts = omega (arith, length-append us (drop (length us) ts))

          taken_length : (v m' : ℕ) (ts : Table) → Fit v m' ts → length (take v ts) ≡ v
          taken_length v m' ts z = length-take-le v ts (omega (arith, z.0, z.1))

          moved_length : (v : ℕ) (x' : Row) (ts : Table) → v ≡ 0 → length (moved v x' ts) ≡ suc (length ts)
          unfolding moved
          moved_length zero x' ts v = omega (arith, length-append ts (x' ∷ []))
          moved_length (suc v) x' ts z = absurd (omega (arith, z))

          opened_room : m ≡ 0 → p.opened < 32
          unfolding applied opened_after entered store_of taken counts on_table
          opened_room v = omega (arith, G.opened, moved_length m (l.tag ∷ q.opened.state.0 ∷ q.opened.transition.0 ∷ l.name_length ∷ 0 ∷ 0 ∷ 0 ∷ 0 ∷ []) (take p.opened o) v, taken_length p.opened 32 o Z.opened)

          regions_after_lem : q.pending.kept + one_there q.pending.one + one_there q.pending.two ≤ 64
          unfolding applied open_regions_after entered store_of taken counts on_table
          regions_after_lem =
              let kl : length (take q.pending.kept (take p.open_regions r)) ≡ q.pending.kept = length-take-le q.pending.kept (take p.open_regions r) A.kept in
              omega (
                arith,
                G.open_regions_lem,
                added_length open_region_of q.pending.two (added_if open_region_of q.pending.one (take q.pending.kept (take p.open_regions r))),
                added_length open_region_of q.pending.one (take q.pending.kept (take p.open_regions r)),
                kl,
              )

          U : Unworded g q
          unfolding plan_of heard look
          U = wordless g (seen n l) (heard l) e.kind q plan

          pub fits : C.Fits l q rows m z.states p.members p.open_regions a st' c d f h i j k o y r
          unfolding counts_after chart_limits store_of taken counts look
          fits =
              record {
                placed = fields_placed g u is;
                wordless = U;
                chart = Z.chart.1;
                states = (omega (arith, count_now, ap length states_now, over_long E b), IfSome_then q.states A.states (λ x' v. omega (arith, v, known_le, count_now)));
                transitions = (omega (arith, row_within 2 (omega arith), taken_length p.transitions 512 c Z.transitions, Z.transitions.1), IfSome_then q.transitions.altered A.transitions (λ x' v. omega (arith, v, taken_length p.transitions 512 c Z.transitions)));
                regions = omega (arith, row_within 3 (omega arith), taken_length p.regions 512 d Z.regions, Z.regions.1);
                entries = (omega (arith, row_within 4 (omega arith), taken_length p.entries 2048 f Z.entries, Z.entries.1), IfSome_then q.entries.altered A.entries (λ x' v. omega (arith, v, taken_length p.entries 2048 f Z.entries)));
                invokes = (omega (arith, row_within 5 (omega arith), taken_length p.invokes 64 h Z.invokes, Z.invokes.1), IfSome_then q.invokes.altered A.invokes (λ x' v. omega (arith, v, taken_length p.invokes 64 h Z.invokes)));
                datums = (omega (arith, row_within 6 (omega arith), taken_length p.datums 256 i Z.datums, Z.datums.1), IfSome_then q.datums.altered A.datums (λ x' v. omega (arith, v, taken_length p.datums 256 i Z.datums)));
                parameters = omega (arith, row_within 7 (omega arith), taken_length p.parameters 512 j Z.parameters, Z.parameters.1);
                listed_members = listed_now;
                members = omega (arith, listed_fits, Z.members.1);
                opened = ((λ v. omega (arith, opened_room v, Z.opened.1)), omega (arith, Z.opened.0, Z.opened.1));
                names = ((λ v. omega (arith, opened_room v, Z.names.1)), omega (arith, Z.names.0, Z.names.1));
                kept = (omega (arith, A.kept, taken_length p.open_regions 64 r Z.open_regions_lem), omega (arith, Z.open_regions_lem.0, Z.open_regions_lem.1));
                pushed = omega (arith, regions_after_lem, Z.open_regions_lem.1);
              }

          -- THE TABLES AFTER AN ACCEPTED EVENT.
          pub tables_after : applied_in (texts_of l.base l.fields) l.tag (opens m l.name_length l.name) rows q a st' c d f h i j ms' o y r ≡ over_all after.tables x.tables
          unfolding store_of taken counts entered on_table
          tables_after =
              ap (λ (v : Table). applied_in (texts_of l.base l.fields) l.tag (opens m l.name_length l.name) rows q a st' c d f h i j v o y r) members_now
              ∙ C.applied_clean l q rows m z.states p.members p.open_regions a st' c d f h i j k o y r (entered l n) tables_entered fits
              ∙ states_beneath
            where
              tables_entered : (entered l n).tables ≡ take 1 a ∷ take z.states st' ∷ take p.transitions c ∷ take p.regions d ∷ take p.entries f ∷ take p.invokes h ∷ take p.datums i ∷ take p.parameters j
                  ∷ take p.members k ∷ take p.opened o ∷ take p.opened y ∷ take p.open_regions r ∷ []
              tables_entered =
                  ap (λ (v : Table). take 1 a ∷ v ∷ take p.transitions c ∷ take p.regions d ∷ take p.entries f ∷ take p.invokes h ∷ take p.datums i ∷ take p.parameters j
                  ∷ take p.members k ∷ take p.opened o ∷ take p.opened y ∷ take p.open_regions r ∷ []) (sym (ap₂ take count_now states_now ∙ over_take E b))

              states_beneath : over_all after.tables (a ∷ st' ∷ c ∷ d ∷ f ∷ h ∷ i ∷ j ∷ k ∷ o ∷ y ∷ r ∷ []) ≡ over_all after.tables x.tables
              states_beneath =
                  unfold applied over_all in
                  ap (λ (v : Table). over (chart_after l q.chart (table_of (entered l n) 0)) a ∷ v ∷ over_all (drop 2 after.tables) (c ∷ d ∷ f ∷ h ∷ i ∷ j ∷ k ∷ o ∷ y ∷ r ∷ []))
                  (ap (over (states_after l q.states E)) states_now ∙ over_over (states_after l q.states E) E b (omega (arith, states_altered)))
                where
                  states_altered : length (states_after l q.states E) ≡ length E
                  states_altered = unfold states_after in altered_length (λ x. x.at.0) (state_after l) q.states E

          -- ---- the text and the position

          arena_length : length (arena p (parsed_of e) tx) ≡ p.used + length (payload_in (parsed_of e) p.names)
          unfolding store_of
          arena_length = length-append (take p.used tx) (payload_in (parsed_of e) p.names) ∙ ap (λ (v : ℕ). v + length (payload_in (parsed_of e) p.names)) used_is

          pub text_now : tx' ≡ over (text_after s e) tx
          unfolding laid over text_after store_of
          text_now =
              W.text
              ∙ sym (append_assoc (take p.used tx) (payload_in (parsed_of e) p.names) (drop (p.used + length (payload_in (parsed_of e) p.names)) tx))
              ∙ ap₂ (λ (v : List ℕ) (m' : ℕ). v ++ drop m' tx) arena_eq (sym (ap length (sym arena_eq) ∙ arena_length))

          used_now : z.used ≡ length (text_after s e)
          unfolding text_after
          used_now = W.used ∙ sym (ap length (sym arena_eq) ∙ arena_length)

          opened_now : opened_by e.kind p.opened ≡ length (opened_after m l q.opened (take p.opened o))
          unfolding opened_after
          opened_now = by_kind e.kind kind_le
            where
              by_kind : (v : ℕ) → v ≤ 3 → opened_by v p.opened ≡ length (moved (move_of v) (l.tag ∷ q.opened.state.0 ∷ q.opened.transition.0 ∷ l.name_length ∷ 0 ∷ 0 ∷ 0 ∷ 0 ∷ []) (take p.opened o))
              by_kind zero w' = unfold opened_by move_of moved in omega (arith, length-append (take p.opened o) ((l.tag ∷ q.opened.state.0 ∷ q.opened.transition.0 ∷ l.name_length ∷ 0 ∷ 0 ∷ 0 ∷ 0 ∷ []) ∷ []), taken_length p.opened 32 o Z.opened)
              by_kind (suc zero) w' = unfold opened_by move_of moved in sym (taken_length p.opened 32 o Z.opened)
              by_kind (suc (suc zero)) w' = unfold opened_by move_of moved in sym (taken_length p.opened 32 o Z.opened)
              by_kind (suc (suc (suc v))) w' = unfold opened_by move_of moved in omega (arith, last_length (take p.opened o), taken_length p.opened 32 o Z.opened)

          grown : (v m' t' i' : ℕ) (ts : Table) → Fit v m' ts → t' ≡ length (take v ts) + i' → v + i' ≡ t'
          grown v m' t' i' ts w' x' = omega (arith, x', taken_length v m' ts w')

          pub position_now : (made : Bool) → made ≡ made_in (parsed_of e) → position_by p q e.kind made l.charge z ≡ position_of (record { numbers = after; text = text_after s e })
          unfolding position_by position_of rows_in applied entered store_of taken counts on_table members_after open_regions_after
          position_now made em =
              let states : z.states ≡ length (states_after l q.states E) = count_now ∙ sym (unfold states_after in altered_length (λ x. x.at.0) (state_after l) q.states E) in
              let transitions : p.transitions + one_there q.transitions.added ≡ length (transitions_after l q.transitions (take p.transitions c)) = grown p.transitions 512 _ _ c Z.transitions (transitions_count limits01 l q n m F.twelve) in
              let regions : p.regions + one_there q.regions.one + one_there q.regions.two ≡ length (regions_after q.regions (take p.regions d)) =
              omega (arith, regions_count limits01 l q n m F.twelve, taken_length p.regions 512 d Z.regions) in
              let entries : p.entries + one_there q.entries.added ≡ length (entries_after l q.entries (take p.entries f)) = grown p.entries 2048 _ _ f Z.entries (entries_count limits01 l q n m F.twelve) in
              let invokes : p.invokes + one_there q.invokes.added ≡ length (invokes_after l q.invokes (take p.invokes h)) = grown p.invokes 64 _ _ h Z.invokes (invokes_count limits01 l q n m F.twelve) in
              let datums : p.datums + one_there q.datums.added ≡ length (datums_after l q.datums (take p.datums i)) = grown p.datums 256 _ _ i Z.datums (datums_count limits01 l q n m F.twelve) in
              let parameters : p.parameters + one_there q.parameters ≡ length (parameters_after l q.parameters (take p.parameters j)) = grown p.parameters 512 _ _ j Z.parameters (parameters_count limits01 l q n m F.twelve) in
              let members : z.members + one_there q.members.one + one_there q.members.two ≡ length (member_after q.members.two (member_after q.members.one L)) =
              omega (arith, listed_now, members_size q.members.two (member_after q.members.one L), members_size q.members.one L) in
              let pending : q.pending.kept + one_there q.pending.one + one_there q.pending.two
              ≡ length (added_if open_region_of q.pending.two (added_if open_region_of q.pending.one (take q.pending.kept (take p.open_regions r)))) =
              omega (
                arith,
                length-take-le q.pending.kept (take p.open_regions r) A.kept,
                added_length open_region_of q.pending.two (added_if open_region_of q.pending.one (take q.pending.kept (take p.open_regions r))),
                added_length open_region_of q.pending.one (take q.pending.kept (take p.open_regions r)),
              ) in
              let names : p.names + one_if made ≡ p.names + l.generated = ap (λ (v : Bool). p.names + one_if v) em ∙ ap (λ (v : ℕ). p.names + v) (made_law s e) in
              λ v.
              record {
                opened = opened_now v;
                states = states v;
                transitions = transitions v;
                regions = regions v;
                entries = entries v;
                invokes = invokes v;
                datums = datums v;
                parameters = parameters v;
                members = members v;
                open_regions = pending v;
                current = q.counters.current;
                ids = q.counters.ids;
                docs = q.counters.docs;
                names = names v;
                used = used_now v;
                charge = p.charge + l.charge;
              }

          pub in_range : (made : Bool) → one_if made ≡ l.generated → InRange p q e.kind made l.charge z
          unfolding store_of taken counts move_of
          in_range made g =
              record {
                opened = λ h. opened_room (ap move_of h);
                states = omega (arith, count_now, entered_fits);
                transitions = omega (arith, Z.transitions.0);
                regions = omega (arith, Z.regions.0);
                entries = omega (arith, Z.entries.0);
                invokes = omega (arith, Z.invokes.0);
                datums = omega (arith, Z.datums.0);
                parameters = omega (arith, Z.parameters.0);
                members = omega (arith, listed_now, listed_fits);
                pending = omega (arith, regions_after_lem);
                names = omega (arith, g, names_within);
                used = omega (arith, W.used, payload_fits);
                charge = omega (arith, charge_within);
              }
