-- The texts of errors that more than one crate tells.
use Rattle.std.specs.Prelude.{ℕ, List, codes}

abbrev pub too_long : List ℕ
too_long = codes "value longer than 16777216 bytes"

abbrev pub missing_value : List ℕ
missing_value = codes "missing value to go with key"

abbrev pub overflow : List ℕ
overflow = codes "integer overflow"

abbrev pub out_of_range : List ℕ
out_of_range = codes "list index out of range"

abbrev pub bad_status : List ℕ
bad_status = codes "exit status must be between 0 and 255"

abbrev pub breaks_tree : List ℕ
breaks_tree = codes "out of memory, and the tree is broken"

abbrev pub tree_broken : List ℕ
tree_broken = codes "the tree is broken"

abbrev pub no_interpreter : List ℕ
no_interpreter = codes "no interpreter stands at the path"

abbrev pub watched_deleted : List ℕ
watched_deleted = codes "the watched interpreter was deleted"

abbrev pub waits : List ℕ
waits = codes "it waits for an answer"

abbrev pub call_open : List ℕ
call_open = codes "a call is open"

abbrev pub denied : List ℕ
denied = codes "permission denied"

abbrev pub too_many : List ℕ
too_many = codes "too many interpreters"

abbrev pub count_limit : List ℕ
count_limit = codes "command count limit exceeded"

abbrev pub depth_limit : List ℕ
depth_limit = codes "too many nested evaluations (infinite loop?)"

abbrev pub bad_depth_limit : List ℕ
bad_depth_limit = codes "recursion limit must be between 1 and 1000"
