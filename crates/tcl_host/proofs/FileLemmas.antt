-- Files, where one is there or missing.
use Rattle.std.proofs.Common.{◌≡◌, ℕ, Bool, true, false, List, [], ◌++◌, Option, Some, None, IsSome, is_some, if◌then◌else◌, refl, sym, ap, ◌∙◌}
use Rattle.std.specs.FinMap.{get, insert, remove, contains_key}
use Rattle.tcl_host.specs.Files.{appended, appended_to, made}
use Rattle.std.proofs.lemmas.Bool.{cond-false}
use Rattle.tcl_host.specs.Names.{Named}
use Rattle.tcl_host.proofs.NameLemmas.{insert-same, remove-insert, get-insert-same, is_some_at}

pub appended-there : (files : Named (List ℕ)) (name more bytes : List ℕ) → Some bytes ≡ get files name → appended files name more ≡ insert files name (bytes ++ more)
appended-there files name more bytes e = ap (appended_to files name more) (sym e)

pub appended-missing : (files : Named (List ℕ)) (name more : List ℕ) → None ≡ get files name → appended files name more ≡ files
appended-missing files name more e = ap (appended_to files name more) (sym e)

-- what was made where it was missing is taken away again
pub remove-made : (files : Named (List ℕ)) (name : List ℕ) → contains_key files name ≡ false → remove (made files name) name ≡ files
remove-made files name e =
    ap (λ f. remove f name) (cond-false (contains_key files name) files (insert files name []) e) ∙ remove-insert files name [] (none_of (get files name) e)
  where
    none_of : (o : Option (List ℕ)) → is_some o ≡ false → o ≡ None
    none_of None h = refl
    none_of (Some bytes) h = cc

-- what is made is there
pub get-made : (files : Named (List ℕ)) (name : List ℕ) → IsSome (get (made files name) name)
get-made files name = by (contains_key files name) refl
  where
    by : (b : Bool) → contains_key files name ≡ b → IsSome (get (if b then files else insert files name []) name)
    by true e = e
    by false e = is_some_at [] _ (sym (get-insert-same files name []))

-- and to empty it is to begin it anew
pub insert-made : (files : Named (List ℕ)) (name : List ℕ) → insert (made files name) name [] ≡ insert files name []
insert-made files name = by (contains_key files name)
  where
    by : (b : Bool) → insert (if b then files else insert files name []) name [] ≡ insert files name []
    by true = refl
    by false = insert-same (insert files name []) name [] (get-insert-same files name [])
