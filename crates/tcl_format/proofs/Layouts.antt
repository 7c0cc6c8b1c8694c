-- What layouts come to.
use Rattle.std.proofs.Common.{◌≡◌, ℕ, zero, suc, ◌+◌, ◌-◌, Bool, true, false, not, ◌&&◌, if◌then◌else◌, List, [], ◌∷◌, ◌++◌, length, Option, Some, None, refl, sym, ◌∙◌, ap, arith, append-nil, append_assoc, length-append}
use Rattle.std.specs.Fmt.{WritesText}
use Rattle.std.specs.Str.{chars}
use Rattle.std.proofs.lemmas.Fmt.{contents_after_writes}
use Rattle.tcl_characters.specs.Texts.{copies}
use Rattle.tcl_format.specs.declared.specifier.Specifier.{Specifier}
use Rattle.tcl_format.specs.Pieces.{room, padded, numbered}
use Rattle.tcl_format.specs.Layouts.{laid_out, aligned, zeros_before}

pub length_copies : (n c : ℕ) → length (copies n (c ∷ [])) ≡ n
length_copies zero c = refl
length_copies (suc n) c = ap suc (length_copies n c)

pub copies_size : (old : List ℕ) (n c : ℕ) → length (old ++ copies n (c ∷ [])) ≡ length old + n
copies_size old n c = length-append old (copies n (c ∷ [])) ∙ ap (λ k. length old + k) (length_copies n c)

-- ---- texts

pub padded_left : (s : Specifier) (body : List ℕ) → s.flags.left ≡ true → padded s false [] body ≡ body ++ copies (room s.width [] body) (32 ∷ [])
padded_left s body h = rw h refl

right_side : (zeros : Bool) (blanks : ℕ) (body : List ℕ) → (if zeros && false then [] ++ (copies blanks (48 ∷ []) ++ body) else copies blanks (32 ∷ []) ++ ([] ++ body)) ≡ copies blanks (32 ∷ []) ++ body
right_side true blanks body = refl
right_side false blanks body = refl

pub padded_right : (s : Specifier) (body : List ℕ) → s.flags.left ≡ false → padded s false [] body ≡ copies (room s.width [] body) (32 ∷ []) ++ body
padded_right s body h = rw h (right_side s.flags.zeros (room s.width [] body) body)

-- ---- numbers

zero_first : (t : List ℕ) → chars (48 ∷ t) ≡ 48 ∷ chars t
unfolding chars
zero_first [] = refl
zero_first (b ∷ t) = refl

zero_characters : (n : ℕ) (t : List ℕ) → length (chars (copies n (48 ∷ []) ++ t)) ≡ n + length (chars t)
zero_characters zero t = omega arith
zero_characters (suc n) t = omega (arith, ap length (zero_first (copies n (48 ∷ []) ++ t)), zero_characters n t)

-- a number whose precision asks for so many zeros
precise_side : (left zeros : Bool) (blanks least k : ℕ) (sign digits : List ℕ) → blanks ≡ least → laid_out (aligned left blanks k) sign digits ≡ (if left then sign ++ ((copies k (48 ∷ []) ++ digits) ++ copies least (32 ∷ [])) else (if zeros && false then sign ++ (copies least (48 ∷ []) ++ (copies k (48 ∷ []) ++ digits)) else copies least (32 ∷ []) ++ (sign ++ (copies k (48 ∷ []) ++ digits))))
precise_side true zeros blanks least k sign digits e =
    ap (λ t. sign ++ t) (sym (append_assoc (copies k (48 ∷ [])) digits (copies blanks (32 ∷ []))) ∙ ap (λ n. (copies k (48 ∷ []) ++ digits) ++ copies n (32 ∷ [])) e)
precise_side false true blanks least k sign digits e =
    ap (λ n. copies n (32 ∷ []) ++ (sign ++ (copies k (48 ∷ []) ++ (digits ++ [])))) e ∙ ap (λ t. copies least (32 ∷ []) ++ (sign ++ (copies k (48 ∷ []) ++ t))) (append-nil digits)
precise_side false false blanks least k sign digits e =
    ap (λ n. copies n (32 ∷ []) ++ (sign ++ (copies k (48 ∷ []) ++ (digits ++ [])))) e ∙ ap (λ t. copies least (32 ∷ []) ++ (sign ++ (copies k (48 ∷ []) ++ t))) (append-nil digits)

-- a number without a precision
plain_side : (left zeros : Bool) (missing : ℕ) (sign digits : List ℕ) → laid_out (aligned left (missing - (if zeros && not left then missing else 0)) (if zeros && not left then missing else 0)) sign digits ≡ (if left then sign ++ (digits ++ copies missing (32 ∷ [])) else (if zeros && true then sign ++ (copies missing (48 ∷ []) ++ digits) else copies missing (32 ∷ []) ++ (sign ++ digits)))
plain_side true true missing sign digits =
    let all : missing - 0 ≡ missing = omega arith in
    ap (λ n. sign ++ (digits ++ copies n (32 ∷ []))) all
plain_side true false missing sign digits =
    let all : missing - 0 ≡ missing = omega arith in
    ap (λ n. sign ++ (digits ++ copies n (32 ∷ []))) all
plain_side false true missing sign digits =
    let none : missing - missing ≡ 0 = omega arith in
    ap (λ n. copies n (32 ∷ []) ++ (sign ++ (copies missing (48 ∷ []) ++ (digits ++ [])))) none ∙ ap (λ t. sign ++ (copies missing (48 ∷ []) ++ t)) (append-nil digits)
plain_side false false missing sign digits =
    let all : missing - 0 ≡ missing = omega arith in
    ap (λ n. copies n (32 ∷ []) ++ (sign ++ (digits ++ []))) all ∙ ap (λ t. copies missing (32 ∷ []) ++ (sign ++ t)) (append-nil digits)

missing_precise : (width signs k all characters : ℕ) → all ≡ k + characters → (width - signs - characters) - k ≡ width - signs - all
missing_precise width signs k all characters e = omega (arith, e)

pub number_laid : (precision : Option ℕ) (s : Specifier) (sign digits : List ℕ) → laid_out (aligned s.flags.left (room s.width sign digits - zeros_before precision s (room s.width sign digits) digits) (zeros_before precision s (room s.width sign digits) digits)) sign digits ≡ numbered precision s sign digits
number_laid None s sign digits = plain_side s.flags.left s.flags.zeros (room s.width sign digits) sign digits
number_laid (Some least) s sign digits =
    let k = least - length digits in
    precise_side s.flags.left s.flags.zeros (room s.width sign digits - k) (room s.width sign (copies k (48 ∷ []) ++ digits)) k sign digits
    (missing_precise s.width (length sign) k (length (chars (copies k (48 ∷ []) ++ digits))) (length (chars digits)) (zero_characters k digits))

-- ---- digits

-- what a text that was empty has where more was written
pub written : {W : Type 0} (took : W → List ℕ → W → Type 0) (contents : W → List ℕ) (appends : (w : W) (bs : List ℕ) (v : W) → took w bs v → contents v ≡ contents w ++ bs) (old new : W) (o : Option (List ℕ)) (bs : List ℕ) → contents old ≡ [] → o ≡ Some bs → WritesText took old o new → contents new ≡ bs
written took contents appends old new None bs e is h = absurd (different bs is)
  where
    different : (bs : List ℕ) → ◌≡◌ {A = Option (List ℕ)} None (Some bs) → ⊥
    different bs e = cc
written took contents appends old new (Some t) bs e is h =
    let same : t ≡ bs = cc in
    contents_after_writes took contents appends old t new h ∙ ap (λ l. l ++ t) e ∙ same
