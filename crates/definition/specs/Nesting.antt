-- Document 01, module 4: Nesting. "A nesting table of 25 rows, up to seven parents each." Parents stand in the Rust's order.
use Rattle.std.specs.Prelude.{ℕ, Bool, true, false, List, [], ◌∷◌, eqb}
use Rattle.definition.specs.Elements.{tag, among}

pub record Below : Type 0 where
  pub element : ℕ
  pub parents : List ℕ

abbrev pub below : ℕ → List ℕ → Below
below g ps = record { element = g; parents = ps }

abbrev in_states : List ℕ
in_states = tag.scxml ∷ tag.state ∷ tag.parallel ∷ []

-- send, raise, cancel; log and assign besides in finalize
abbrev in_actions : List ℕ → List ℕ
in_actions more = tag.transition ∷ tag.onexit ∷ tag.onentry ∷ tag.if ∷ tag.foreach ∷ more

abbrev in_blocks : List ℕ
in_blocks = tag.onentry ∷ tag.onexit ∷ tag.transition ∷ tag.foreach ∷ tag.if ∷ tag.finalize ∷ []

unfoldable pub nesting : List Below
nesting =
    below tag.state in_states
    ∷ below tag.parallel in_states
    ∷ below tag.datamodel in_states
    ∷ below tag.final (tag.scxml ∷ tag.state ∷ [])
    ∷ below tag.history (tag.state ∷ tag.parallel ∷ [])
    ∷ below tag.initial (tag.state ∷ tag.parallel ∷ [])
    ∷ below tag.invoke (tag.state ∷ tag.parallel ∷ [])
    ∷ below tag.datum (tag.datamodel ∷ [])
    ∷ below tag.donedata (tag.final ∷ [])
    ∷ below tag.finalize (tag.invoke ∷ [])
    ∷ below tag.else (tag.if ∷ [])
    ∷ below tag.elseif (tag.if ∷ [])
    ∷ below tag.param (tag.send ∷ tag.invoke ∷ tag.donedata ∷ [])
    ∷ below tag.content (tag.send ∷ tag.invoke ∷ tag.donedata ∷ [])
    ∷ below tag.transition (tag.history ∷ tag.initial ∷ tag.state ∷ tag.parallel ∷ [])
    ∷ below tag.onentry (tag.state ∷ tag.parallel ∷ tag.final ∷ [])
    ∷ below tag.onexit (tag.state ∷ tag.parallel ∷ tag.final ∷ [])
    ∷ below tag.send (in_actions [])
    ∷ below tag.raise (in_actions [])
    ∷ below tag.cancel (in_actions [])
    ∷ below tag.log (in_actions (tag.finalize ∷ []))
    ∷ below tag.assign (in_actions (tag.finalize ∷ []))
    ∷ below tag.if in_blocks
    ∷ below tag.foreach in_blocks
    ∷ below tag.script (tag.scxml ∷ in_actions (tag.finalize ∷ []))
    ∷ []

-- "scxml and unknown names: anywhere." They have no row.
unfoldable pub allowed_in : List Below → ℕ → ℕ → Bool
unfolding among
allowed_in [] g parent = true
allowed_in (b ∷ bs) g parent = elim (eqb b.element g) [ true ↦ among parent b.parents | false ↦ allowed_in bs g parent ]

-- Whether g may stand in an element parent; where nothing is open, parent is `unknown`, which is no one's parent in the table.
unfoldable pub parent_allowed : ℕ → ℕ → Bool
unfolding allowed_in nesting
parent_allowed g parent = allowed_in nesting g parent
