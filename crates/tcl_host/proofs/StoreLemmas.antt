-- What the steps of an opening leave together.
use Rattle.std.proofs.Common.{◌≡◌, ℕ, Bool, true, false, not, List, [], IsSome, refl, sym, ap, ◌∙◌, subst}
use Rattle.std.specs.FinMap.{get, insert, remove, contains_key}
use Rattle.tcl_host.specs.Files.{made}
use Rattle.tcl_host.specs.Names.{Named}
use Rattle.tcl_host.specs.Stores.{opened}
use Rattle.tcl_host.specs.declared.memory.store.Store.{Store}
use Rattle.tcl_host.specs.declared.open_mode.OpenMode.TheVariants.{Write, Append}
use Rattle.tcl_host.proofs.FileLemmas.{remove-made, get-made, insert-made}

not_there : (b m : Bool) → m ≡ not b → m ≡ true → b ≡ false
not_there true m e t = cc
not_there false m e t = refl

-- a file that was made and is taken away again
pub put_back : (store now : Store) (name : List ℕ) (m : Bool) (files : Named (List ℕ))
    → m ≡ not (contains_key store.files name) → m ≡ true
    → now ≡ record store { files = made store.files name } → files ≡ remove now.files name → record now { files = files } ≡ store
put_back store now name m files missing was e f =
    let back : files ≡ store.files =
    f ∙ ap (λ (s : Store). remove s.files name) e ∙ remove-made store.files name (not_there _ m missing was) in
    ap (λ (s : Store). record s { files = files }) e ∙ ap (λ (g : Named (List ℕ)). record store { files = g }) back

-- the file of an opening to append is there
pub opened_there : (store now : Store) (name : List ℕ) → now ≡ opened Append store name → IsSome (get now.files name)
opened_there store now name e = subst (λ (s : Store). IsSome (get s.files name)) (sym e) (get-made store.files name)

-- an opening to append, and then the file is emptied
pub begun_anew : (store now : Store) (name : List ℕ) (files : Named (List ℕ))
    → now ≡ opened Append store name → files ≡ insert now.files name [] → record now { files = files } ≡ opened Write store name
begun_anew store now name files e f =
    let anew : files ≡ insert store.files name [] = f ∙ ap (λ (s : Store). insert s.files name []) e ∙ insert-made store.files name in
    ap (λ (s : Store). record s { files = files }) e ∙ ap (λ (g : Named (List ℕ)). record (opened Write store name) { files = g }) anew
