-- One step of a change of a dict.
use Rattle.std.proofs.Common.{◌≡◌, ℕ, ◌-◌, ◌≤◌, List, [], ◌∷◌, length, take, drop, get_or, Ok, Err, refl, sym, ◌∙◌, ap, arith, length-drop}
use Rattle.std.proofs.Math.Seq.{take-length}
use Rattle.std.specs.declared.result.Result.{Result}
use Rattle.tcl_words.specs.declared.refusal.Refusal.{Refusal}
use Rattle.tcl_words.specs.declared.refusal.Refusal.TheVariants.{Memory, Fault}
use Rattle.tcl_value.specs.declared.value.ValueError.{ValueError}
use Rattle.tcl_value.specs.declared.value.ValueError.TheVariants.{Memory as NoMemory, TooLong}
use Rattle.tcl_words.specs.Outcomes.{Outcome, Refuses, next}
use Rattle.tcl_words.specs.Faults.{too_long}
use Rattle.tcl_words.proofs.WordLemmas.{limited_past}
use Rattle.tcl_value.specs.Limits.{IsPast}
use Rattle.tcl_value.specs.Writing.{write}
use Rattle.tcl_value.specs.Texts.{flat}
use Rattle.tcl_value.specs.Dicts.{Pairs, put, without}
use Rattle.tcl_lists.specs.Lists.{Texts}
use Rattle.tcl_dicts.specs.Dicts.{put_within, put_words, without_within}

pub put_past : (es : Pairs) (k v : List ℕ) → IsPast (write (flat (put es k v))) → put_within es k v ≡ Err too_long
put_past es k v h = ap (λ (r : Outcome). next {X = List ℕ} r (λ _. Ok (put es k v))) (limited_past (write (flat (put es k v))) h)

pub without_past : (es : Pairs) (k : List ℕ) → IsPast (write (flat (without es k))) → without_within es k ≡ Err too_long
without_past es k h = ap (λ (r : Outcome). next {X = List ℕ} r (λ _. Ok (without es k))) (limited_past (write (flat (without es k))) h)

first_pair : (es : Pairs) (left : Texts) (k v : List ℕ) → 2 ≤ length left → k ≡ get_or left 0 k → v ≡ get_or left 1 v → put_words es left ≡ next (put_within es k v) (λ ds. put_words ds (drop 2 left))
first_pair es [] k v h e f = absurd (omega arith)
first_pair es (a ∷ []) k v h e f = absurd (omega arith)
first_pair es (a ∷ b ∷ left) k v h e f = ap (λ x. next (put_within es x b) (λ ds. put_words ds left)) (sym e) ∙ ap (λ x. next (put_within es k x) (λ ds. put_words ds left)) (sym f)

rest_is : (left : Texts) → take (length left - 2) (drop 2 left) ≡ drop 2 left
rest_is left = ap (λ n. take n (drop 2 left)) (sym (length-drop 2 left)) ∙ take-length (drop 2 left)

-- a pair that is put, and the pairs behind it
pub pairs_step : (es ds : Pairs) (left : Texts) (k v : List ℕ) (whole : Result Pairs (List ℕ)) → 2 ≤ length left → k ≡ get_or left 0 k → v ≡ get_or left 1 v → put_within es k v ≡ Ok ds → put_words es left ≡ whole → put_words ds (take (length left - 2) (drop 2 left)) ≡ whole
pairs_step es ds left k v whole h e f made i =
    ap (put_words ds) (rest_is left) ∙ (sym (first_pair es left k v h e f ∙ ap (λ (r : Result Pairs (List ℕ)). next r (λ fs. put_words fs (drop 2 left))) made) ∙ i)

-- what is told of a value that isn't made, where a dict is built
pub refuses_dict : (r : Refusal) (why : ValueError) (o : Result Pairs (List ℕ)) → ((outcome : Outcome) → (why ≡ TooLong → outcome ≡ Err too_long) → Refuses r outcome) → (why ≡ TooLong → o ≡ Err too_long) → Refuses r o
refuses_dict Memory why o f h = tt
refuses_dict (Fault t) NoMemory o f h = let none : ◌≡◌ {A = Outcome} (Ok []) (Err t) = f (Ok []) (λ e. cc) in cc
refuses_dict (Fault t) TooLong o f h = let told : ◌≡◌ {A = Outcome} (Err too_long) (Err t) = f (Err too_long) (λ _. refl) in let same : too_long ≡ t = cc in h refl ∙ ap Err same
