-- Files in memory: a finite map from names to bytes.
use Rattle.std.specs.Prelude.{ℕ, List, [], ◌++◌, Option, Some, None, unwrap_or, if◌then◌else◌}
use Rattle.std.specs.FinMap.{get, insert, contains_key}
use Rattle.tcl_host.specs.Names.{Named}

-- what a file holds; nothing where it is missing
abbrev pub content_of : Named (List ℕ) → List ℕ → List ℕ
content_of files name = unwrap_or (get files name) []

-- the files, with more at the end of one
abbrev pub appended_to : Named (List ℕ) → List ℕ → List ℕ → Option (List ℕ) → Named (List ℕ)
appended_to files name more None = files
appended_to files name more (Some bytes) = insert files name (bytes ++ more)

abbrev pub appended : Named (List ℕ) → List ℕ → List ℕ → Named (List ℕ)
appended files name more = appended_to files name more (get files name)

-- the files, with an empty one where the name is missing
abbrev pub made : Named (List ℕ) → List ℕ → Named (List ℕ)
made files name = if contains_key files name then files else insert files name []
