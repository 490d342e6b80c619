-- Texts, words and names of an event, written before its rows.
use Rattle.std.specs.Prelude.{ℕ, ◌+◌, ◌≤◌, ◌≡◌, Bool, Option, Some, None, List, ◌++◌, length, take}
use Rattle.definition.specs.declared.Position.{Position}
use Rattle.definition.specs.Text.{Piece}
use Rattle.definition.specs.Rows.{Row, Table}
use Rattle.plain.specs.Plain.{Parsed}
use Rattle.plan.specs.declared.TargetPlan.{TargetPlan}
use Rattle.plan.specs.declared.MembersPlan.{MembersPlan}
use Rattle.wordlists.specs.Words.{set_all}
use Rattle.payload.specs.Laid.{laid}
use Rattle.payload.specs.Payload.{made_in, payload_in}
use Rattle.arena.specs.declared.Written.{Written}
use Rattle.texts.specs.EventTexts.{event_texts}
use Rattle.wordlists.specs.Words.{word_rows_of}
use Rattle.targets.specs.Names.{pieces_in, skip_of, NameRoom, NamesWritten, OwnIn, TargetsIn}

-- The transition that gets the targets; 0 where none does.
unfoldable pub owner_of : Option TargetPlan → ℕ
owner_of None = 0
owner_of (Some p) = p.owner

module _ (p : Position) (v : Parsed) where
  abbrev pub payload : List ℕ
  payload = payload_in v p.names

  -- The text in use after the event.
  abbrev pub arena : List ℕ → List ℕ
  arena tx = take p.used tx ++ payload

  abbrev pub texts : List ℕ
  texts = event_texts p.used p.names v

  abbrev pub words : List ℕ → MembersPlan → List Row
  words tx m = word_rows_of v.tag (arena tx) texts m.words

  abbrev pub pieces : List ℕ → List Piece
  pieces tx = pieces_in v.kind v.tag (arena tx) texts

  abbrev pub skip : ℕ
  skip = skip_of v.kind v.tag

  -- Everything has its place.
  pub record Storable (st ms : Table) (tx : List ℕ) (made : Bool) (m : MembersPlan) : Type 0 where
    pub drawn : p.names ≤ 65535
    pub generated : made ≡ made_in v
    pub room : p.used + length payload ≤ length tx
    pub small : p.used + length payload ≤ 65535
    pub members : p.members ≤ 65535
    pub listed : p.members + length (words tx m) ≤ 65535
    pub names : NameRoom st (set_all ms p.members (words tx m)) (arena tx) p.states (p.members + length (words tx m)) skip (pieces tx)
    pub own : OwnIn v.kind v.tag (arena tx) texts
    pub targets : TargetsIn (arena tx) texts

  -- What is there then; t' is the table of the event's texts.
  pub record Stored (st ms : Table) (tx : List ℕ) (m : MembersPlan) (st' ms' : Table) (tx' t' : List ℕ) (r : Written) : Type 0 where
    pub text : tx' ≡ laid tx p.used payload
    pub used : r.used ≡ p.used + length payload
    pub by_key_lem : t' ≡ texts
    pub names : NamesWritten st (set_all ms p.members (words tx m)) (arena tx) p.states (p.members + length (words tx m)) (owner_of m.targets) skip (pieces tx) st' ms' r.states r.members
