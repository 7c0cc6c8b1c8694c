-- Lemmas on maps and tables that change.
use Rattle.std.proofs.Common.{◌≡◌, ℕ, ◌+◌, ◌<◌, cond, [], ◌∷◌, ◌++◌, length, ◌∙◌, ap, arith, set, get_or, count_by, Option, Some, None}
use Rattle.std.specs.Prelude.{is_some}
use Rattle.std.specs.Str.{bytes_eq}
use Rattle.std.proofs.lemmas.List.{map-append}
use Rattle.std.proofs.lemmas.List.Sums.{sum_by-set}
use Rattle.std.specs.Map.{keys_of}
use Rattle.indexmap.specs.IndexMap.{IndexMap, get, keys, insert_entry}
use Rattle.indexmap.proofs.CallerLemmas.{insert_entry-new}
use Rattle.slab.proofs.SlabLemmas.{ContainsKey-within}
use Rattle.slab.specs.Slab as slab
use Rattle.slab.specs.Slab.{Slab}
use Rattle.tcl_interpreter.specs.Paths.{Text}
use Rattle.tcl_interpreter.specs.declared.node.Node.{Node}

-- a new key goes last among the keys
pub keys_pushed : {S : Type 0} (m n : IndexMap Text ℕ S) (label : Text) (key : ℕ) → n.entries ≡ insert_entry bytes_eq m.entries label key → get bytes_eq m label ≡ None
    → keys n ≡ keys m ++ label ∷ []
keys_pushed m n label key e absent =
    ap keys_of (e ∙ insert_entry-new bytes_eq m label key absent) ∙ map-append (λ p. p.0) m.entries ((label, key) ∷ [])

cancel : (a b h : ℕ) → a + h ≡ b + 1 → h ≡ 1 → a ≡ b
cancel a b h e f = omega arith

-- a value that is written over another
pub len_kept : (s : Slab Node) (k : ℕ) (old new : Node) → slab.get s k ≡ Some old → slab.slab_len (slab.with_value s k new) ≡ slab.slab_len s
len_kept s k old new is =
    let within : k < length s.slots = ContainsKey-within s k (ap is_some is) in
    let counted : count_by is_some (set s.slots k (Some new)) + cond (is_some (get_or s.slots k None)) 1 0 ≡ count_by is_some s.slots + 1 = sum_by-set (λ (o : Option Node). cond (is_some o) 1 0) s.slots k (Some new) None within in
    let here : cond (is_some (get_or s.slots k None)) 1 0 ≡ 1 = ap (λ (o : Option Node). cond (is_some o) 1 0) is in
    cancel (count_by is_some (set s.slots k (Some new))) (count_by is_some s.slots) _ counted here
