-- The places that indexes name.
use Rattle.std.proofs.Common.{◌≡◌, ℕ, ◌≤◌, ℤ, pos, ◌-ℤ◌, w64, to_z, of_z, List, Ok, Err, Option, Some, None, refl, sym, ◌∙◌, ap}
use Rattle.std.specs.Prelude.{ok_or, option_map}
use Rattle.tcl_text.specs.declared.integer.Integers.{Integers}
use Rattle.tcl_text.specs.Indexes.{index_of, place}
use Rattle.std.proofs.lemmas.Int.{to_z-of_z}
use Rattle.std.specs.declared.result.Result.{Result}
use Rattle.tcl_text.specs.declared.index.Index.{Index}
use Rattle.tcl_text.specs.declared.index.IndexFault.{IndexFault}
use Rattle.tcl_text.specs.declared.index.IndexFault.TheVariants.{BadIndex as NoIndex}
use Rattle.tcl_text.proofs.Fitting.{fits_last}
use Rattle.tcl_lists.specs.Nested.{place_within, place_found, place_or}
use Rattle.tcl_lists.specs.declared.fault.NestedFault.TheVariants.{BadIndex}

different : (p : Index) → ◌≡◌ {A = Result Index IndexFault} (Ok p) (Err NoIndex) → ⊥
different p e = cc

pub index_ok : (index : List ℕ) (count : ℕ) (read : Option Index) (to : Index) → Ok to ≡ ok_or read NoIndex → place_or index count read ≡ place_found (place_within count to)
index_ok index count None to h = let e : Ok to ≡ Err NoIndex = h in absurd (different to e)
index_ok index count (Some p) to h =
    let e : ◌≡◌ {A = Result Index IndexFault} (Ok to) (Ok p) = h in
    let same : to ≡ p = cc in
    ap (λ z. place_found (place_within count z)) (sym same)

pub index_err : (index : List ℕ) (count : ℕ) (read : Option Index) (fault : IndexFault) → Err fault ≡ ok_or read NoIndex → place_or index count read ≡ Err (BadIndex index)
index_err index count None fault h = refl
index_err index count (Some p) fault h = let e : ◌≡◌ {A = Result Index IndexFault} (Err fault) (Ok p) = h in cc

pub last_same : (last : ℤ) (count : ℕ) → count ≤ 16777216 → last ≡ pos count -ℤ pos 1 → to_z w64 (of_z w64 last) ≡ pos count -ℤ pos 1
last_same last count h e = ap (λ (z : ℤ). to_z w64 (of_z w64 z)) e ∙ to_z-of_z w64 (pos count -ℤ pos 1) (fits_last count h)

read_same : (style : Integers) (last end : ℤ) (text index : List ℕ) → last ≡ end → text ≡ index → ok_or (option_map place (index_of style last text)) NoIndex ≡ ok_or (option_map place (index_of style end index)) NoIndex
read_same style last end text index e q = ap (λ z. ok_or (option_map place (index_of style z text)) NoIndex) e ∙ ap (λ t. ok_or (option_map place (index_of style end t)) NoIndex) q

pub named_ok : (style : Integers) (count : ℕ) (last : ℤ) (text index : List ℕ) (to : Index) → last ≡ pos count -ℤ pos 1 → text ≡ index → Ok to ≡ ok_or (option_map place (index_of style last text)) NoIndex → place_or index count (option_map place (index_of style (pos count -ℤ pos 1) index)) ≡ place_found (place_within count to)
named_ok style count last text index to e q h = index_ok index count (option_map place (index_of style (pos count -ℤ pos 1) index)) to (h ∙ read_same style last (pos count -ℤ pos 1) text index e q)

pub named_err : (style : Integers) (count : ℕ) (last : ℤ) (text index : List ℕ) (fault : IndexFault) → last ≡ pos count -ℤ pos 1 → text ≡ index → Err fault ≡ ok_or (option_map place (index_of style last text)) NoIndex → place_or index count (option_map place (index_of style (pos count -ℤ pos 1) index)) ≡ Err (BadIndex index)
named_err style count last text index fault e q h = index_err index count (option_map place (index_of style (pos count -ℤ pos 1) index)) fault (h ∙ read_same style last (pos count -ℤ pos 1) text index e q)
