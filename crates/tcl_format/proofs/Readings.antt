-- What the readings of a specifier leave.
use Rattle.std.proofs.Common.{◌≡◌, ℕ, zero, suc, ◌+◌, ◌-◌, ◌*◌, ◌<◌, ◌≤◌, None, Bool, true, false, cond, List, [], ◌∷◌, ◌++◌, length, drop, Option, Ok, refl, sym, ◌∙◌, ap, arith, append_assoc, length-append}
use Rattle.std.specs.Prelude.{◌==◌}
use Rattle.std.specs.Char.{is_ascii_digit}
use Rattle.std.proofs.Math.Seq.{drop-append_seam}
use Rattle.tcl_text.specs.declared.integer.Integers.{Integers}
use Rattle.tcl_words.specs.Outcomes.{next}
use Rattle.tcl_format.specs.declared.specifier.Flags.{Flags}
use Rattle.tcl_format.specs.declared.specifier.Specifier.{Specifier}
use Rattle.tcl_format.specs.Specifiers.{is_flag, with_flag, no_flags, read_flags, read_number, capped, precise, read_precision, behind_l, closed, specified, shown}
use Rattle.tcl_format.specs.Filling.{Filled, item_of, items, put_item, filled}

-- these characters end with the rest
abbrev pub Ends : List ℕ → List ℕ → Type 0
Ends cs rest = (front : List ℕ) × (cs ≡ front ++ rest)

one_more : (c : ℕ) (cs rest : List ℕ) → Ends cs rest → Ends (c ∷ cs) rest
one_more c cs rest h = (c ∷ h.0, ap (λ x. c ∷ x) h.1)

itself : (cs : List ℕ) → Ends cs cs
itself cs = ([], refl)

both : (cs rest last : List ℕ) → Ends cs rest → Ends rest last → Ends cs last
both cs rest last h k = (h.0 ++ k.0, h.1 ∙ ap (λ x. h.0 ++ x) k.1 ∙ sym (append_assoc h.0 k.0 last))

chosen : {A : Type 0} (t : Bool) (p q : A × List ℕ) (cs : List ℕ) → Ends cs p.1 → Ends cs q.1 → Ends cs (cond t p q).1
chosen true p q cs h k = h
chosen false p q cs h k = k

chosen_list : (t : Bool) (p q : List ℕ) (cs : List ℕ) → Ends cs p → Ends cs q → Ends cs (cond t p q)
chosen_list true p q cs h k = h
chosen_list false p q cs h k = k

flags_end : (f : Flags) (cs : List ℕ) → Ends cs (read_flags f cs).1
flags_end f [] = itself []
flags_end f (c ∷ cs) = chosen (is_flag c) (read_flags (with_flag f c) cs) (f, c ∷ cs) (c ∷ cs) (one_more c cs _ (flags_end (with_flag f c) cs)) (itself (c ∷ cs))

number_end : (n : ℕ) (cs : List ℕ) → Ends cs (read_number n cs).1
number_end n [] = itself []
number_end n (c ∷ cs) = chosen (is_ascii_digit c) (read_number (n * 10 + (c - 48)) cs) (n, c ∷ cs) (c ∷ cs) (one_more c cs _ (number_end (n * 10 + (c - 48)) cs)) (itself (c ∷ cs))

precision_end : (cs : List ℕ) → Ends cs (read_precision cs).1
precision_end [] = itself []
precision_end (c ∷ cs) = chosen (c == 46) (precise (capped (read_number 0 cs))) (None, c ∷ cs) (c ∷ cs) (one_more c cs _ (number_end 0 cs)) (itself (c ∷ cs))

l_end : (cs : List ℕ) → Ends cs (behind_l cs)
l_end [] = itself []
l_end (c ∷ cs) = chosen_list (c == 108) cs (c ∷ cs) (c ∷ cs) (one_more c cs cs (itself cs)) (itself (c ∷ cs))

closed_end : (f : Flags) (w : ℕ) (p : Option ℕ) (cs : List ℕ) → Ends cs (closed f w p cs).1
closed_end f w p [] = itself []
closed_end f w p (c ∷ cs) = one_more c cs cs (itself cs)

specified_end : (cs : List ℕ) → Ends cs (specified cs).1
specified_end cs =
    let a = (read_flags no_flags cs).1 in
    let b = (read_number 0 a).1 in
    let d = (read_precision b).1 in
    both cs a _ (flags_end no_flags cs)
    (both a b _ (number_end 0 a)
    (both b d _ (precision_end b)
    (both d (behind_l d) _ (l_end d)
    (both (behind_l d) (behind_l (behind_l d)) _ (l_end (behind_l d))
    (closed_end _ _ _ (behind_l (behind_l d)))))))

drop_front : (cs rest : List ℕ) → Ends cs rest → drop (length cs - length rest) cs ≡ rest
drop_front cs rest h =
    let sum = ap length h.1 in
    let parts = length-append h.0 rest in
    let size : length cs - length rest ≡ length h.0 = omega arith in
    ap (λ n. drop n cs) size ∙ ap (drop (length h.0)) h.1 ∙ drop-append_seam h.0 rest

no_longer : (cs rest : List ℕ) → Ends cs rest → length rest ≤ length cs
no_longer cs rest h = omega (arith, ap length h.1, length-append h.0 rest)

-- what is left is shorter than the text with its `%`
pub shorter : (whole behind after : List ℕ) (letter : ℕ) (read : Option Specifier) → whole ≡ letter ∷ behind → (read, after) ≡ specified behind → length after < length whole
shorter whole behind after letter read e is =
    let rest : after ≡ (specified behind).1 = ap (λ (p : Option Specifier × List ℕ). p.1) is in
    let less = no_longer behind (specified behind).1 (specified_end behind) in
    omega (arith, ap length e, ap length rest)

items_skip : (cs : List ℕ) (n : ℕ) → items cs n ≡ items (drop n cs) 0
items_skip [] zero = refl
items_skip [] (suc n) = refl
items_skip (c ∷ cs) zero = refl
items_skip (c ∷ cs) (suc n) = items_skip cs n

-- a specifier that was put
pub step : (style : Integers) (whole behind after made more : List ℕ) (letter : ℕ) (read : Option Specifier) (values left : List (List ℕ)) → whole ≡ letter ∷ behind → letter ≡ 37 → (read, after) ≡ specified behind → put_item style made (item_of read (shown behind after)) values ≡ Ok (more, left) → filled style made (items whole 0) values ≡ filled style more (items after 0) left
step style whole behind after made more letter read values left e percent is put =
    let got : read ≡ (specified behind).0 = ap (λ (p : Option Specifier × List ℕ). p.0) is in
    let rest : after ≡ (specified behind).1 = ap (λ (p : Option Specifier × List ℕ). p.1) is in
    let go = λ (p : Filled). filled style p.0 (items behind (length behind - length (specified behind).1)) p.1 in
    let skip : items behind (length behind - length (specified behind).1) ≡ items after 0 =
    items_skip behind (length behind - length (specified behind).1) ∙ ap (λ cs. items cs 0) (drop_front behind (specified behind).1 (specified_end behind) ∙ sym rest) in
    ap (λ cs. filled style made (items cs 0) values) (e ∙ ap (λ c. c ∷ behind) percent)
    ∙ ap (λ r. next (put_item style made (item_of r (shown behind (specified behind).1)) values) go) (sym got)
    ∙ ap (λ a. next (put_item style made (item_of read (shown behind a)) values) go) (sym rest)
    ∙ ap (λ o. next o go) put
    ∙ ap (λ i. filled style more i left) skip
