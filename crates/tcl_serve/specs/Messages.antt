-- What messages ask for, and what a line says.
use Rattle.serde_json.specs.Data.{Data}
use Rattle.serde_json.specs.Find.{as_object}
use Rattle.serde_json.specs.Read.{read}
use Rattle.std.specs.Option.{unwrap_or}
use Rattle.std.specs.Prelude.{◌≡◌, ℕ, ℤ, ◌==◌, ◌⊎◌, Bool, List, Option, Some, None, Result, Ok, Err}
use Rattle.std.specs.Prelude.{IsUtf8, codes, find, if◌then◌else◌, nat_lt}
use Rattle.std.specs.Str.{bytes_eq}
use Rattle.tcl_core.specs.Paths.{Path, Text}
use Rattle.tcl_serve.specs.Fields.{flag_of, followed, in_field, integer_of, mapped, number_of}
use Rattle.tcl_serve.specs.Fields.{number_or_null_of, object_of, only, optional_in, text_of}
use Rattle.tcl_serve.specs.Fields.{texts_of}
use Rattle.tcl_serve.specs.Names.{fields_of, kind_name, kinds}
use Rattle.tcl_serve.specs.declared.fields.Field.TheVariants as field
use Rattle.tcl_serve.specs.declared.kinds.Kind.{Kind}
use Rattle.tcl_serve.specs.declared.kinds.Kind.TheVariants as kind
use Rattle.tcl_serve.specs.declared.messages.Ask.{Ask as DeclaredAsk}
use Rattle.tcl_serve.specs.declared.messages.Ask.TheVariants as ask
use Rattle.tcl_serve.specs.declared.messages.Channel.{Channel}
use Rattle.tcl_serve.specs.declared.messages.Channel.TheVariants as channel
use Rattle.tcl_serve.specs.declared.messages.Evaluate.{Evaluate as DeclaredEvaluate}
use Rattle.tcl_serve.specs.declared.messages.Interpreter.{Interpreter}
use Rattle.tcl_serve.specs.declared.messages.Line.{Line}
use Rattle.tcl_serve.specs.declared.messages.Line.TheVariants as line
use Rattle.tcl_serve.specs.declared.messages.Message.{Message}
use Rattle.tcl_serve.specs.declared.messages.Message.TheVariants as message
use Rattle.tcl_serve.specs.declared.refusals.Refusal.{Refusal}
use Rattle.tcl_serve.specs.declared.refusals.Refusal.TheVariants.{Memory, NotJson, NotUtf8}
use Rattle.tcl_serve.specs.declared.refusals.Refusal.TheVariants.{OutOfRange, UnknownMessage}
use Rattle.tcl_text.specs.declared.integer.Integers.{Integers}
use Rattle.tcl_text.specs.declared.integer.Integers.TheVariants as style

-- the tree of a number, and a path in it
pub record Place : Type 0 where
  pub tree : ℕ
  pub path : Path

pub record Evaluation : Type 0 where
  pub place : Place
  pub script : Text
  pub limit : Option ℕ

-- what is asked of a tree that evaluates no script
pub data Ask : Type 0 where
  Create : (path : Path) (safe : Bool) → Ask
  Delete : (path : Path) → Ask
  Alias : (path : Path) (name : Text) (to : Path) (words : List Text) → Ask
  AliasToClient : (path : Path) (name : Text) (words : List Text) → Ask
  ClearAlias : (path : Path) (name : Text) → Ask
  LimitCount : (path : Path) (count : Option ℕ) → Ask
  LimitDepth : (path : Path) (depth : ℕ) → Ask
  Look : (path : Path) → Ask
  PutFile : (name text : Text) → Ask
  GetFile : (name : Text) → Ask
  PutInput : (text : Text) → Ask
  TakeOutput : (to : Channel) → Ask

-- what a message asks for
pub data Asks : Type 0 where
  MakeTree : (integers : Integers) → Asks
  DropTree : (tree : ℕ) → Asks
  OnTree : (tree : ℕ) (asking : Ask) → Asks
  Evaluate : (evaluation : Evaluation) → Asks
  Watch : (evaluation : Evaluation) (watched : Path) → Asks
  Save : (place : Place) → Asks
  Compare : (saved with : ℕ) → Asks
  Replay : (saved played limit : ℕ) → Asks
  DropSaved : (saved : ℕ) → Asks
  DropRecord : (kept : ℕ) → Asks
  Return : (call : ℕ) (code : ℤ) (text : Text) → Asks
  EndRun : (call : ℕ) → Asks

abbrev pub place_of : Interpreter → Place
place_of i = record { tree = i.tree; path = i.path.items }

abbrev pub evaluation_of : DeclaredEvaluate → Evaluation
evaluation_of e = record { place = place_of e.interpreter; script = e.script; limit = e.limit }

abbrev pub ask_of : DeclaredAsk → Ask
ask_of (ask.Create a) = Create a.path.items a.safe
ask_of (ask.Delete path) = Delete path.items
ask_of (ask.Alias a) = Alias a.path.items a.name a.to.items a.words.items
ask_of (ask.AliasToClient a) = AliasToClient a.path.items a.name a.words.items
ask_of (ask.ClearAlias a) = ClearAlias a.path.items a.name
ask_of (ask.LimitCount a) = LimitCount a.path.items a.count
ask_of (ask.LimitDepth a) = LimitDepth a.path.items a.depth
ask_of (ask.Look path) = Look path.items
ask_of (ask.PutFile a) = PutFile a.name a.text
ask_of (ask.GetFile name) = GetFile name
ask_of (ask.PutInput text) = PutInput text
ask_of (ask.TakeOutput c) = TakeOutput c

abbrev pub asks_of : Message → Asks
asks_of (message.MakeTree integers) = MakeTree integers
asks_of (message.DropTree n) = DropTree n
asks_of (message.OnTree n a) = OnTree n (ask_of a)
asks_of (message.Evaluate m) = Evaluate (evaluation_of m)
asks_of (message.Watch m) = Watch (evaluation_of m.evaluate) m.watched.items
asks_of (message.Save m) = Save (place_of m)
asks_of (message.Compare m) = Compare m.saved m.with
asks_of (message.Replay m) = Replay m.saved m.played m.limit
asks_of (message.DropSaved n) = DropSaved n
asks_of (message.DropRecord n) = DropRecord n
asks_of (message.Return m) = Return m.call m.code m.text
asks_of (message.EndRun n) = EndRun n

-- ## What is asked for in JSON, by the fields of each message

abbrev pub style_of : Option ℕ → Result Integers Refusal
style_of None = Ok style.Tcl8
style_of (Some n) = if n == 8 then Ok style.Tcl8 else if n == 9 then Ok style.Tcl9 else
    Err (OutOfRange field.Integers)

abbrev pub make_tree_in : Data → Result Integers Refusal
make_tree_in d = followed (optional_in number_of field.Integers d) style_of

abbrev pub place_in : Data → Result Place Refusal
place_in d = followed (in_field number_of field.Tree d) (λ tree.
    mapped (λ path. record { tree = tree; path = path }) (in_field texts_of field.Path d))

abbrev pub evaluation_in : Data → Result Evaluation Refusal
evaluation_in d = followed (optional_in number_of field.Limit d) (λ limit.
    followed (place_in d) (λ place.
    mapped (λ script. record { place = place; script = script; limit = limit })
    (in_field text_of field.Script d)))

abbrev pub create_in : Data → Result Ask Refusal
create_in d = followed (in_field flag_of field.Safe d) (λ safe.
    mapped (λ path. Create path safe) (in_field texts_of field.Path d))

abbrev pub alias_in : Data → Result Ask Refusal
alias_in d = followed (in_field texts_of field.Path d) (λ path.
    followed (in_field text_of field.Name d) (λ name.
    followed (in_field texts_of field.To d) (λ to.
    mapped (λ words. Alias path name to words) (in_field texts_of field.Words d))))

abbrev pub alias_to_client_in : Data → Result Ask Refusal
alias_to_client_in d = followed (in_field texts_of field.Path d) (λ path.
    followed (in_field text_of field.Name d) (λ name.
    mapped (λ words. AliasToClient path name words) (in_field texts_of field.Words d)))

abbrev pub clear_alias_in : Data → Result Ask Refusal
clear_alias_in d = followed (in_field texts_of field.Path d) (λ path.
    mapped (λ name. ClearAlias path name) (in_field text_of field.Name d))

-- no count is greater than 9223372036854775807
abbrev pub count_of : Option ℕ → Result (Option ℕ) Refusal
count_of count = if nat_lt 9223372036854775807 (unwrap_or count 0) then
    Err (OutOfRange field.Count) else Ok count

abbrev pub limit_count_in : Data → Result Ask Refusal
limit_count_in d = followed (in_field number_or_null_of field.Count d) (λ n.
    followed (count_of n) (λ count.
    mapped (λ path. LimitCount path count) (in_field texts_of field.Path d)))

abbrev pub limit_depth_in : Data → Result Ask Refusal
limit_depth_in d = followed (in_field number_of field.Depth d) (λ depth.
    mapped (λ path. LimitDepth path depth) (in_field texts_of field.Path d))

abbrev pub put_file_in : Data → Result Ask Refusal
put_file_in d = followed (in_field text_of field.Name d) (λ name.
    mapped (λ text. PutFile name text) (in_field text_of field.Text d))

abbrev pub channel_of : Text → Result Channel Refusal
channel_of name = if bytes_eq name (codes "stdout") then Ok channel.Output else
    if bytes_eq name (codes "stderr") then Ok channel.Errors else Err (OutOfRange field.Channel)

abbrev pub take_output_in : Data → Result Ask Refusal
take_output_in d = followed (in_field text_of field.Channel d) (λ name.
    mapped (λ to. TakeOutput to) (channel_of name))

abbrev pub watch_in : Data → Result Asks Refusal
watch_in d = followed (evaluation_in d) (λ evaluation.
    mapped (λ watched. Watch evaluation watched) (in_field texts_of field.Watched d))

abbrev pub compare_in : Data → Result Asks Refusal
compare_in d = followed (in_field number_of field.Saved d) (λ saved.
    mapped (λ with. Compare saved with) (in_field number_of field.With d))

-- how many steps are made where a message doesn't say
abbrev pub steps : ℕ
steps = 10000000

abbrev pub replay_in : Data → Result Asks Refusal
replay_in d = followed (in_field number_of field.Saved d) (λ saved.
    followed (in_field number_of field.Record d) (λ played.
    mapped (λ limit. Replay saved played (unwrap_or limit steps))
    (optional_in number_of field.Limit d)))

abbrev pub return_in : Data → Result Asks Refusal
return_in d = followed (in_field number_of field.Call d) (λ call.
    followed (in_field integer_of field.Code d) (λ code.
    mapped (λ text. Return call code text) (in_field text_of field.Text d)))

-- what is asked of the tree that the message names
abbrev pub on_tree : Data → Ask → Result Asks Refusal
on_tree d asking = mapped (λ tree. OnTree tree asking) (in_field number_of field.Tree d)

abbrev pub asked : Kind → Data → Result Asks Refusal
asked kind.MakeTree d = mapped MakeTree (make_tree_in d)
asked kind.DropTree d = mapped DropTree (in_field number_of field.Tree d)
asked kind.Create d = followed (create_in d) (on_tree d)
asked kind.Delete d = followed (mapped Delete (in_field texts_of field.Path d)) (on_tree d)
asked kind.Evaluate d = mapped Evaluate (evaluation_in d)
asked kind.Alias d = followed (alias_in d) (on_tree d)
asked kind.AliasToClient d = followed (alias_to_client_in d) (on_tree d)
asked kind.ClearAlias d = followed (clear_alias_in d) (on_tree d)
asked kind.LimitCount d = followed (limit_count_in d) (on_tree d)
asked kind.LimitDepth d = followed (limit_depth_in d) (on_tree d)
asked kind.Look d = followed (mapped Look (in_field texts_of field.Path d)) (on_tree d)
asked kind.PutFile d = followed (put_file_in d) (on_tree d)
asked kind.GetFile d = followed (mapped GetFile (in_field text_of field.Name d)) (on_tree d)
asked kind.PutInput d = followed (mapped PutInput (in_field text_of field.Text d)) (on_tree d)
asked kind.TakeOutput d = followed (take_output_in d) (on_tree d)
asked kind.Watch d = watch_in d
asked kind.Save d = mapped Save (place_in d)
asked kind.Compare d = compare_in d
asked kind.Replay d = replay_in d
asked kind.DropSaved d = mapped DropSaved (in_field number_of field.Saved d)
asked kind.DropRecord d = mapped DropRecord (in_field number_of field.Record d)
asked kind.Return d = return_in d
asked kind.EndRun d = mapped EndRun (in_field number_of field.Call d)

-- ## What a line says

abbrev pub known : Text → Option Kind → Result Kind Refusal
known name (Some kind) = Ok kind
known name None = Err (UnknownMessage name)

-- the kind of a name
abbrev pub kind_named : Text → Option Kind
kind_named name = find (λ k. bytes_eq (kind_name k) name) kinds

abbrev pub kind_in : Data → Result Kind Refusal
kind_in d = followed (in_field text_of field.Do d) (λ name. known name (kind_named name))

-- what an object asks for, which has the fields of its kind and no others
abbrev pub asks_in : Data → Result Asks Refusal
asks_in d = followed (kind_in d) (λ kind. followed (only (fields_of kind) d) (λ _. asked kind d))

pub record Said : Type 0 where
  pub id : Option ℕ
  pub asks : Result Asks Refusal

abbrev pub said_of : Line → Said
said_of (line.Asks id m) = record { id = Some id; asks = Ok (asks_of m) }
said_of (line.Fails id e) = record { id = id; asks = Err e }

abbrev pub id_in : Data → Result ℕ Refusal
id_in d = followed (object_of (as_object d)) (λ _. in_field number_of field.Id d)

abbrev pub said_under : Data → Result ℕ Refusal → Said
said_under d (Ok id) = record { id = Some id; asks = asks_in d }
said_under d (Err e) = record { id = None; asks = Err e }

abbrev pub said_in : Option Data → Said
said_in (Some d) = said_under d (id_in d)
said_in None = record { id = None; asks = Err NotJson }

-- A line means what its JSON says, where it is UTF-8.
pub data Means (bytes : List ℕ) (said : Said) : Type 0 where
  text : IsUtf8 bytes → said ≡ said_in (read bytes) → Means bytes said
  no_text : (IsUtf8 bytes → Prim.⊥) → said ≡ record { id = None; asks = Err NotUtf8 } →
      Means bytes said

-- why no JSON is read of a line
abbrev pub IsNoJson : List ℕ → Refusal → Type 0
IsNoJson bytes Memory = Unit {0}
IsNoJson bytes NotUtf8 = IsUtf8 bytes → Prim.⊥
IsNoJson bytes NotJson = IsUtf8 bytes × (read bytes ≡ None)
IsNoJson bytes e = Prim.⊥

-- or memory was wanted to read it
abbrev pub MeansOrWants : List ℕ → Said → Type 0
MeansOrWants bytes said = Means bytes said ⊎ (said.asks ≡ Err Memory)
