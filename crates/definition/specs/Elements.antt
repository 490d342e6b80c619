-- Elements and keys by number, and what part each value plays. Document 01, modules 1 and 2, and questions 10 to 12.
use Rattle.std.specs.Prelude.{ℕ, suc, Bool, true, false, ◌||◌, ◌&&◌, List, [], ◌∷◌, length, eqb, ltb}
use Rattle.definition.specs.Text.{str, place_in}

unfoldable pub among : ℕ → List ℕ → Bool
among n [] = false
among n (m ∷ ms) = elim (eqb n m) [ true ↦ true | false ↦ among n ms ]

-- ---- elements

-- `datum` is the element `data`; `unknown` is every name that is not listed.
abbrev pub tag : record {
  unknown : ℕ;
  scxml : ℕ;
  state : ℕ;
  parallel : ℕ;
  datamodel : ℕ;
  final : ℕ;
  history : ℕ;
  initial : ℕ;
  invoke : ℕ;
  datum : ℕ;
  donedata : ℕ;
  finalize : ℕ;
  else : ℕ;
  elseif : ℕ;
  param : ℕ;
  content : ℕ;
  transition : ℕ;
  onentry : ℕ;
  onexit : ℕ;
  send : ℕ;
  raise : ℕ;
  cancel : ℕ;
  log : ℕ;
  assign : ℕ;
  if : ℕ;
  foreach : ℕ;
  script : ℕ;
  include : ℕ;
}
tag =
    record {
      unknown = 0;
      scxml = 1;
      state = 2;
      parallel = 3;
      datamodel = 4;
      final = 5;
      history = 6;
      initial = 7;
      invoke = 8;
      datum = 9;
      donedata = 10;
      finalize = 11;
      else = 12;
      elseif = 13;
      param = 14;
      content = 15;
      transition = 16;
      onentry = 17;
      onexit = 18;
      send = 19;
      raise = 20;
      cancel = 21;
      log = 22;
      assign = 23;
      if = 24;
      foreach = 25;
      script = 26;
      include = 27;
    }

-- In the order of their numbers, from 1.
unfoldable pub element_names : List (List ℕ)
unfolding str
element_names =
    str "scxml"
    ∷ str "state"
    ∷ str "parallel"
    ∷ str "datamodel"
    ∷ str "final"
    ∷ str "history"
    ∷ str "initial"
    ∷ str "invoke"
    ∷ str "data"
    ∷ str "donedata"
    ∷ str "finalize"
    ∷ str "else"
    ∷ str "elseif"
    ∷ str "param"
    ∷ str "content"
    ∷ str "transition"
    ∷ str "onentry"
    ∷ str "onexit"
    ∷ str "send"
    ∷ str "raise"
    ∷ str "cancel"
    ∷ str "log"
    ∷ str "assign"
    ∷ str "if"
    ∷ str "foreach"
    ∷ str "script"
    ∷ str "include"
    ∷ []

-- The place in a table of names, from 1; 0 if it is not there.
unfoldable pub number_in : List (List ℕ) → List ℕ → ℕ
unfolding place_in
number_in ns w = let i : ℕ = place_in ns w in elim (ltb i (length ns)) [ true ↦ suc i | false ↦ 0 ]

unfoldable pub tag_of : List ℕ → ℕ
unfolding element_names number_in
tag_of w = number_in element_names w

-- "`data`, `script`, `content`, `assign` come as `whole` or `empty`, never `open`, and nothing else is `whole`."
unfoldable pub holds_text : ℕ → Bool
unfolding among
holds_text g = among g (tag.datum ∷ tag.script ∷ tag.content ∷ tag.assign ∷ [])

-- "scxml, state, parallel, final and history": the elements whose `id` names a state.
unfoldable pub names_state : ℕ → Bool
unfolding among
names_state g = among g (tag.scxml ∷ tag.state ∷ tag.parallel ∷ tag.final ∷ tag.history ∷ [])

-- ---- keys

-- `text` and `quoted` are no keys: they stand for an event's text and for an assign's text in quotes.
abbrev pub key : record {
  other : ℕ;
  id : ℕ;
  initial : ℕ;
  name : ℕ;
  datamodel : ℕ;
  binding : ℕ;
  version : ℕ;
  type : ℕ;
  typeexpr : ℕ;
  src : ℕ;
  srcexpr : ℕ;
  idlocation : ℕ;
  namelist : ℕ;
  autoforward : ℕ;
  event : ℕ;
  eventexpr : ℕ;
  cond : ℕ;
  target : ℕ;
  targetexpr : ℕ;
  expr : ℕ;
  array : ℕ;
  item : ℕ;
  index : ℕ;
  sendid : ℕ;
  sendidexpr : ℕ;
  delay : ℕ;
  delayexpr : ℕ;
  location : ℕ;
  label : ℕ;
  text : ℕ;
  quoted : ℕ;
}
key =
    record {
      other = 0;
      id = 1;
      initial = 2;
      name = 3;
      datamodel = 4;
      binding = 5;
      version = 6;
      type = 7;
      typeexpr = 8;
      src = 9;
      srcexpr = 10;
      idlocation = 11;
      namelist = 12;
      autoforward = 13;
      event = 14;
      eventexpr = 15;
      cond = 16;
      target = 17;
      targetexpr = 18;
      expr = 19;
      array = 20;
      item = 21;
      index = 22;
      sendid = 23;
      sendidexpr = 24;
      delay = 25;
      delayexpr = 26;
      location = 27;
      label = 28;
      text = 29;
      quoted = 30;
    }

unfoldable pub key_names : List (List ℕ)
unfolding str
key_names =
    str "id"
    ∷ str "initial"
    ∷ str "name"
    ∷ str "datamodel"
    ∷ str "binding"
    ∷ str "version"
    ∷ str "type"
    ∷ str "typeexpr"
    ∷ str "src"
    ∷ str "srcexpr"
    ∷ str "idlocation"
    ∷ str "namelist"
    ∷ str "autoforward"
    ∷ str "event"
    ∷ str "eventexpr"
    ∷ str "cond"
    ∷ str "target"
    ∷ str "targetexpr"
    ∷ str "expr"
    ∷ str "array"
    ∷ str "item"
    ∷ str "index"
    ∷ str "sendid"
    ∷ str "sendidexpr"
    ∷ str "delay"
    ∷ str "delayexpr"
    ∷ str "location"
    ∷ str "label"
    ∷ []

unfoldable pub key_of : List ℕ → ℕ
unfolding key_names number_in
key_of w = number_in key_names w

-- ---- roles

-- What part a value plays in demand 3. name: a state's name. names: words that are state names. masked: only its length is looked at. plain: its bytes.
pub data Role : Type 0 where
  name names masked plain : Role

-- "cond, expr and array mean the values of these keys on all elements."
unfoldable pub is_masked : ℕ → Bool
unfolding among
is_masked k = among k (key.cond ∷ key.expr ∷ key.array ∷ [])

-- "State names stand in `id` and `initial` of scxml, state, parallel, final and history and in a transition's `target`."
unfoldable pub is_name : ℕ → ℕ → Bool
unfolding names_state
is_name g k = eqb k key.id && names_state g

unfoldable pub is_names : ℕ → ℕ → Bool
unfolding names_state
is_names g k = (eqb k key.initial && names_state g) || (eqb k key.target && eqb g tag.transition)

unfoldable pub role_of : ℕ → ℕ → Role
unfolding is_masked is_name is_names
role_of g k =
    elim (is_masked k) [
      | true ↦ masked
      | false ↦ elim (is_name g k) [ true ↦ name | false ↦ elim (is_names g k) [ true ↦ names | false ↦ plain ] ]
    ]

-- ---- question 6

-- "Is it neither include, nor data or script with `src`, nor send with `delay`?" The keys that are not read, by element.
unfoldable pub left_out_keys : ℕ → List ℕ
left_out_keys g =
    elim (eqb g tag.datum || eqb g tag.script) [
      | true ↦ key.src ∷ []
      | false ↦ elim (eqb g tag.send) [ true ↦ key.delay ∷ [] | false ↦ [] ]
    ]

-- ---- question 10

-- "Are required attributes there (data id; foreach array, item; if, elseif cond; param name; assign location; raise event; cancel sendid or
-- sendidexpr)?" Of each inner list one must be there.
pub record Required : Type 0 where
  pub element : ℕ
  pub one_of : List (List ℕ)

unfoldable pub requirements : List Required
requirements =
    record { element = tag.datum; one_of = (key.id ∷ []) ∷ [] }
    ∷ record { element = tag.foreach; one_of = (key.array ∷ []) ∷ (key.item ∷ []) ∷ [] }
    ∷ record { element = tag.if; one_of = (key.cond ∷ []) ∷ [] }
    ∷ record { element = tag.elseif; one_of = (key.cond ∷ []) ∷ [] }
    ∷ record { element = tag.param; one_of = (key.name ∷ []) ∷ [] }
    ∷ record { element = tag.assign; one_of = (key.location ∷ []) ∷ [] }
    ∷ record { element = tag.raise; one_of = (key.event ∷ []) ∷ [] }
    ∷ record { element = tag.cancel; one_of = (key.sendid ∷ key.sendidexpr ∷ []) ∷ [] }
    ∷ []

unfoldable pub required_in : List Required → ℕ → List (List ℕ)
required_in [] g = []
required_in (r ∷ rs) g = elim (eqb r.element g) [ true ↦ r.one_of | false ↦ required_in rs g ]

-- ---- question 11

-- "Are these apart: send's and cancel's attribute with its -expr, send's id with idlocation, param's expr with location": two keys of one element.
-- (A send's `delay` is left out, so its `delayexpr` has no partner.)
pub record Apart : Type 0 where
  pub element : ℕ
  pub one : ℕ
  pub other : ℕ

abbrev pub apart : ℕ → ℕ → ℕ → Apart
apart g k j = record { element = g; one = k; other = j }

unfoldable pub exclusions : List Apart
exclusions =
    apart tag.send key.event key.eventexpr
    ∷ apart tag.send key.target key.targetexpr
    ∷ apart tag.send key.type key.typeexpr
    ∷ apart tag.send key.id key.idlocation
    ∷ apart tag.cancel key.sendid key.sendidexpr
    ∷ apart tag.param key.expr key.location
    ∷ []

-- ---- question 12, and other values that are read as a code

-- The words that src/fsm.rs takes, in any letter case; a word's code is its place.
pub record Coding : Type 0 where
  pub element : ℕ
  pub of : ℕ
  pub words : List (List ℕ)

unfoldable pub codings : List Coding
unfolding str
codings =
    record { element = tag.scxml; of = key.binding; words = str "early" ∷ str "late" ∷ [] }
    ∷ record { element = tag.history; of = key.type; words = str "" ∷ str "shallow" ∷ str "deep" ∷ [] }
    ∷ record { element = tag.transition; of = key.type; words = str "external" ∷ str "internal" ∷ str "" ∷ [] }
    ∷ []

unfoldable pub words_taken : List Coding → ℕ → ℕ → List (List ℕ)
words_taken [] g k = []
words_taken (c ∷ cs) g k = elim (eqb c.element g && eqb c.of k) [ true ↦ c.words | false ↦ words_taken cs g k ]
