-- Changes of a dict that a value keeps.
use Rattle.std.proofs.Common.{◌≡◌, ℕ, List, [], false, cond, Result, Ok, Err, sym, ◌∙◌, ap, subst, length, arith, OnOk, IfErr}
use Rattle.std.specs.Prelude.{◌%◌, ◌==◌}
use Rattle.tcl_value.specs.Limits.{IsWithin, IsPast}
use Rattle.tcl_value.specs.Writing.{write}
use Rattle.tcl_value.specs.Texts.{flat}
use Rattle.tcl_value.specs.Dicts.{Pairs, put, put_all, dict_of_read, dict_of}
use Rattle.tcl_value.specs.DictChanges.{AtDict, RefusesEntry}
use Rattle.tcl_value.specs.declared.dict_fault.DictFault.TheVariants.{MissingValue}
use Rattle.tcl_value.specs.declared.dict_fault.EntryError.{EntryError}
use Rattle.tcl_value.proofs.Writes.{length-flat}
use Rattle.tcl_value.proofs.Laws.{list_of-write}

even_test : (n : ℕ) → n ≡ 0 → (n == 1) ≡ false
even_test n h = ap (λ (m : ℕ). m == 1) h

-- a dict reads as itself
pub dict_of-write : (es : Pairs) → put_all [] (flat es) ≡ es → dict_of (write (flat es)) ≡ Ok es
dict_of-write es h =
    ap dict_of_read (list_of-write (flat es))
    ∙ ap (λ b. cond b (Err MissingValue) (Ok (put_all [] (flat es)))) (even_test (length (flat es) % 2) (omega (arith, length-flat es)))
    ∙ ap (λ z. Ok z) h

pub dict_changed_at : {U : Type 0} (r : Result U EntryError) (old : List ℕ) (es new : Pairs) (change : Pairs → Pairs) → dict_of old ≡ Ok es → OnOk r (new ≡ change es) → OnOk r (IsWithin (write (flat new))) → OnOk r (AtDict (dict_of old) (λ z. (write (flat new) ≡ write (flat (change z))) × IsWithin (write (flat (change z)))))
dict_changed_at (Ok x) old es new change e p w =
    subst (λ r. AtDict r (λ z. (write (flat new) ≡ write (flat (change z))) × IsWithin (write (flat (change z))))) (sym e) (ap (λ z. write (flat z)) p, subst (λ (z : Pairs). IsWithin (write (flat z))) p w)
dict_changed_at (Err x) old es new change e p w = tt

pub dict_refused_at : {U : Type 0} (r : Result U EntryError) (old : List ℕ) (es : Pairs) (change : Pairs → Pairs) → dict_of old ≡ Ok es → IfErr r (λ e. RefusesEntry e (Ok es) (λ z. IsPast (write (flat (change z))))) → IfErr r (λ e. RefusesEntry e (dict_of old) (λ z. IsPast (write (flat (change z)))))
dict_refused_at r old es change e h = subst (λ l. IfErr r (λ x. RefusesEntry x l (λ z. IsPast (write (flat (change z)))))) (sym e) h

-- a key and a value by their texts
pub put_same : {U : Type 0} (r : Result U EntryError) (es new : Pairs) (k v key text : List ℕ) → key ≡ k → text ≡ v → OnOk r (new ≡ put es key text) → OnOk r (new ≡ put es k v)
put_same r es new k v key text e f h = subst (λ (t : List ℕ). OnOk r (new ≡ put es k t)) f (subst (λ (t : List ℕ). OnOk r (new ≡ put es t text)) e h)

pub refused_same : {U : Type 0} (r : Result U EntryError) (es : Pairs) (k v key text : List ℕ) → key ≡ k → text ≡ v → IfErr r (λ e. RefusesEntry e (Ok es) (λ z. IsPast (write (flat (put z key text))))) → IfErr r (λ e. RefusesEntry e (Ok es) (λ z. IsPast (write (flat (put z k v)))))
refused_same r es k v key text e f h = subst (λ (t : List ℕ). IfErr r (λ x. RefusesEntry x (Ok es) (λ z. IsPast (write (flat (put z k t)))))) f (subst (λ (t : List ℕ). IfErr r (λ x. RefusesEntry x (Ok es) (λ z. IsPast (write (flat (put z t text)))))) e h)
