-- The names of fields, and of what messages do.
use Rattle.std.specs.Prelude.{List, [], ◌∷◌, codes}
use Rattle.tcl_core.specs.Paths.{Text}
use Rattle.tcl_serve.specs.declared.fields.Field.{Field}
use Rattle.tcl_serve.specs.declared.fields.Field.TheVariants as field
use Rattle.tcl_serve.specs.declared.fields.FieldType.{FieldType}
use Rattle.tcl_serve.specs.declared.fields.FieldType.TheVariants as type
use Rattle.tcl_serve.specs.declared.kinds.Kind.{Kind}
use Rattle.tcl_serve.specs.declared.kinds.Kind.TheVariants as kind

abbrev pub name_of : Field → Text
name_of field.Id = codes "id"
name_of field.Do = codes "do"
name_of field.Integers = codes "integers"
name_of field.Tree = codes "tree"
name_of field.Path = codes "path"
name_of field.Safe = codes "safe"
name_of field.Script = codes "script"
name_of field.Limit = codes "limit"
name_of field.Name = codes "name"
name_of field.To = codes "to"
name_of field.Words = codes "words"
name_of field.Count = codes "count"
name_of field.Depth = codes "depth"
name_of field.Text = codes "text"
name_of field.Channel = codes "channel"
name_of field.Watched = codes "watched"
name_of field.Saved = codes "saved"
name_of field.With = codes "with"
name_of field.Record = codes "record"
name_of field.Call = codes "call"
name_of field.Code = codes "code"

-- what can stand in a field
abbrev pub type_of : Field → FieldType
type_of field.Id = type.Number
type_of field.Do = type.Text
type_of field.Integers = type.Number
type_of field.Tree = type.Number
type_of field.Path = type.Texts
type_of field.Safe = type.Flag
type_of field.Script = type.Text
type_of field.Limit = type.Number
type_of field.Name = type.Text
type_of field.To = type.Texts
type_of field.Words = type.Texts
type_of field.Count = type.NumberOrNull
type_of field.Depth = type.Number
type_of field.Text = type.Text
type_of field.Channel = type.Text
type_of field.Watched = type.Texts
type_of field.Saved = type.Number
type_of field.With = type.Number
type_of field.Record = type.Number
type_of field.Call = type.Number
type_of field.Code = type.Integer

abbrev pub type_name : FieldType → Text
type_name type.Number = codes "a number"
type_name type.NumberOrNull = codes "a number or null"
type_name type.Integer = codes "an integer"
type_name type.Flag = codes "true or false"
type_name type.Text = codes "a text"
type_name type.Texts = codes "a list of texts"

-- what is said in the field `do`
abbrev pub kind_name : Kind → Text
kind_name kind.MakeTree = codes "make_tree"
kind_name kind.DropTree = codes "drop_tree"
kind_name kind.Create = codes "create"
kind_name kind.Delete = codes "delete"
kind_name kind.Evaluate = codes "evaluate"
kind_name kind.Alias = codes "alias"
kind_name kind.AliasToClient = codes "alias_to_client"
kind_name kind.ClearAlias = codes "clear_alias"
kind_name kind.LimitCount = codes "limit_count"
kind_name kind.LimitDepth = codes "limit_depth"
kind_name kind.Look = codes "look"
kind_name kind.PutFile = codes "put_file"
kind_name kind.GetFile = codes "get_file"
kind_name kind.PutInput = codes "put_input"
kind_name kind.TakeOutput = codes "take_output"
kind_name kind.Watch = codes "watch"
kind_name kind.Save = codes "save"
kind_name kind.Compare = codes "compare"
kind_name kind.Replay = codes "replay"
kind_name kind.DropSaved = codes "drop_saved"
kind_name kind.DropRecord = codes "drop_record"
kind_name kind.Return = codes "return"
kind_name kind.EndRun = codes "end_run"

-- all of them
abbrev pub kinds : List Kind
kinds = kind.MakeTree ∷ kind.DropTree ∷ kind.Create ∷ kind.Delete ∷ kind.Evaluate ∷ kind.Alias ∷
    kind.AliasToClient ∷ kind.ClearAlias ∷ kind.LimitCount ∷ kind.LimitDepth ∷ kind.Look ∷
    kind.PutFile ∷ kind.GetFile ∷ kind.PutInput ∷ kind.TakeOutput ∷ kind.Watch ∷ kind.Save ∷
    kind.Compare ∷ kind.Replay ∷ kind.DropSaved ∷ kind.DropRecord ∷ kind.Return ∷ kind.EndRun ∷ []

-- the fields of a message, beside its id and what it does
abbrev pub fields_of : Kind → List Field
fields_of kind.MakeTree = field.Integers ∷ []
fields_of kind.DropTree = field.Tree ∷ []
fields_of kind.Create = field.Tree ∷ field.Path ∷ field.Safe ∷ []
fields_of kind.Delete = field.Tree ∷ field.Path ∷ []
fields_of kind.Evaluate = field.Tree ∷ field.Path ∷ field.Script ∷ field.Limit ∷ []
fields_of kind.Alias = field.Tree ∷ field.Path ∷ field.Name ∷ field.To ∷ field.Words ∷ []
fields_of kind.AliasToClient = field.Tree ∷ field.Path ∷ field.Name ∷ field.Words ∷ []
fields_of kind.ClearAlias = field.Tree ∷ field.Path ∷ field.Name ∷ []
fields_of kind.LimitCount = field.Tree ∷ field.Path ∷ field.Count ∷ []
fields_of kind.LimitDepth = field.Tree ∷ field.Path ∷ field.Depth ∷ []
fields_of kind.Look = field.Tree ∷ field.Path ∷ []
fields_of kind.PutFile = field.Tree ∷ field.Name ∷ field.Text ∷ []
fields_of kind.GetFile = field.Tree ∷ field.Name ∷ []
fields_of kind.PutInput = field.Tree ∷ field.Text ∷ []
fields_of kind.TakeOutput = field.Tree ∷ field.Channel ∷ []
fields_of kind.Watch = field.Tree ∷ field.Path ∷ field.Script ∷ field.Limit ∷ field.Watched ∷ []
fields_of kind.Save = field.Tree ∷ field.Path ∷ []
fields_of kind.Compare = field.Saved ∷ field.With ∷ []
fields_of kind.Replay = field.Saved ∷ field.Record ∷ field.Limit ∷ []
fields_of kind.DropSaved = field.Saved ∷ []
fields_of kind.DropRecord = field.Record ∷ []
fields_of kind.Return = field.Call ∷ field.Code ∷ field.Text ∷ []
fields_of kind.EndRun = field.Call ∷ []
