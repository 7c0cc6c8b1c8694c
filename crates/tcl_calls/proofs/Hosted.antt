-- What calls of the host come to.
use Rattle.std.proofs.Common.{◌≡◌, ◌<◌, ◌≤◌, ◌⊎◌, inl, inr, negsuc, Bool, true, false, List, [], ◌∷◌, ◌++◌, append-nil, length, refl, sym, ◌∙◌, ap, subst, arith}
use Rattle.std.specs.Prelude.{Result, Ok, Err, codes, if◌then◌else◌, ◌||◌}
use Rattle.std.specs.Str.{IsUtf8, bytes_eq, is_utf8}
use Rattle.std.proofs.lemmas.Bool.Decides.{nat_tests}
use Rattle.std.proofs.lemmas.Fmt.{decimal_digit}
use Rattle.std.proofs.lemmas.Slice.Eq.{bytes_eq-Decides}
use Rattle.std.specs.Fmt.{signed_decimal}
use Rattle.std.proofs.lemmas.Str.{IsUtf8-from_is_utf8, is_utf8-from_IsUtf8}
use Rattle.tcl_core.specs.Endings.{Completion, Reply, ok}
use Rattle.tcl_core.specs.Endings.Reply.{Completed}
use Rattle.tcl_core.specs.Entries as asking
use Rattle.tcl_core.specs.Paths.{Place, Text}
use Rattle.tcl_core.specs.Programs.Prog.{done}
use Rattle.tcl_host.specs.Modes.{bad_mode_text, mode_of}
use Rattle.tcl_host.specs.Replies.{refusal_text}
use Rattle.tcl_host.specs.declared.open_mode.BadMode.{BadMode}
use Rattle.tcl_host.specs.declared.open_mode.OpenMode.{OpenMode}
use Rattle.tcl_host.specs.declared.open_mode.OpenMode.TheVariants as mode
use Rattle.tcl_host.specs.declared.reply.HostRefusal.{HostRefusal}
use Rattle.tcl_host.specs.declared.reply.HostRefusal.TheVariants.{DeviceFault, NoChannel, NotOpened}
use Rattle.tcl_host.specs.declared.reply.HostReply.{HostReply as TheirReply}
use Rattle.tcl_host.specs.declared.reply.HostReply.TheVariants as theirs
use Rattle.tcl_language.specs.Faults.{wrong_args}
use Rattle.tcl_language.specs.Hosting as hosting
use Rattle.tcl_language.specs.Hosting.{is_mode, not_utf8, on_channel, read_from, refusal_message}
use Rattle.tcl_language.specs.Instructions.{Program, either, fails, fits, gives, too_long}
use Rattle.tcl_language.specs.Sourcing as sourcing
use Rattle.tcl_run.specs.Ends.{Interrupts, failing}
use Rattle.tcl_run.specs.Entering.{mode_text}
use Rattle.tcl_run.specs.Outsides.{number_of, reply_of}
use Rattle.tcl_run.specs.Plain.{Acts, Does}
use Rattle.tcl_run.specs.Runs.{IsThere}
use Rattle.tcl_run.specs.declared.interruption.Interruption.{Interruption}
use Rattle.tcl_run.proofs.Endings.{IfEnded-more, Interrupts-more, ended_err}
use Rattle.tcl_text.specs.declared.integer.Integers.{Integers}
use Rattle.tcl_tree.specs.TreeOf.{tree_of}
use Rattle.tcl_tree.specs.declared.tree.Place.{Place as TablePlace}
use Rattle.tcl_tree.specs.declared.tree.Tree.{Tree as Table}
use Rattle.tcl_value.specs.Limits.{IsPast, IsWithin}
use Rattle.tcl_calls.specs.HostCalls.{Ends, IsCall, IsOver, IsRead, IsScript}
use Rattle.tcl_calls.specs.declared.host_calls.HostCall.{HostCall}

-- ## Programs that are over

pub over_by : (x : Program) (c : Completion) (e : Reply) → x ≡ done c → e ≡ Completed c → IsOver x e
over_by x c e same h = λ T p. subst (λ (y : Program). Does y T p T e) (sym same) (refl, h)

-- what is the same program is over so too
pub over_as : (x y : Program) (e : Reply) → x ≡ y → IsOver y e → IsOver x e
over_as x y e same h = subst (λ (z : Program). IsOver z e) (sym same) h

-- a program that is over does no more than that
pub over_acts : (t : Table) (place : TablePlace) (x : Program) (result : Result Text Interruption) → Ends x result → Acts t place (λ style. x) t result
over_acts t place x result h = IfEnded-more result (IsOver x) (λ r. (p : Place) (style : Integers) → IsThere t place p style → Does x (tree_of t) p (tree_of t) r) (λ e over p style at. over (tree_of t) p) h

-- what is the same program acts so too
pub acts_as : (t u : Table) (place : TablePlace) (x y : Program) (result : Result Text Interruption) → x ≡ y → Acts t place (λ style. y) u result → Acts t place (λ style. x) u result
acts_as t u place x y result same h = subst (λ (z : Program). Acts t place (λ style. z) u result) (sym same) h

pub ends_as : (x y : Program) (result : Result Text Interruption) → x ≡ y → Ends y result → Ends x result
ends_as x y result same h = subst (λ (z : Program). Ends z result) (sym same) h

pub script_as : (x y : Program) (result : Result Text Interruption) → x ≡ y → IsScript y result → IsScript x result
script_as x y result same h = subst (λ (z : Program). IsScript z result) (sym same) h

-- an error that a program is
pub over_err : (x : Program) (c : Completion) (i : Interruption) → x ≡ done c → Interrupts i (λ e. e ≡ Completed c) → Interrupts i (IsOver x)
over_err x c i same h = Interrupts-more i (λ e. e ≡ Completed c) (IsOver x) (λ e is. over_by x c e same is) h

-- ## Words

pub refusal_is : (why : HostRefusal) (x : Text) → refusal_text why x ≡ refusal_message (number_of why) x
refusal_is NoChannel x = ap (λ (t : Text). codes "can not find channel named \"" ++ t) (sym (append-nil (x ++ 34 ∷ [])))
refusal_is DeviceFault x = ap (λ (t : Text). codes "device fault on \"" ++ t) (sym (append-nil (x ++ 34 ∷ [])))
refusal_is NotOpened x = ap (λ (t : Text). codes "couldn't open \"" ++ t) (sym (append-nil (x ++ 34 ∷ [])))

pub bad_mode_is : (word : Text) → bad_mode_text word ≡ hosting.bad_mode word
bad_mode_is word = ap (λ (t : Text). codes "bad mode \"" ++ t) (sym (append-nil (word ++ 34 ∷ [])))

-- a list of other than one word
pub not_only : (form : Text) (k : Text → Program) (xs : List Text) → (length xs < 1) ⊎ (2 ≤ length xs) → on_channel form k xs ≡ fails (wrong_args form)
not_only form k [] h = refl
not_only form k (a ∷ []) (inl h) = absurd (omega arith)
not_only form k (a ∷ []) (inr h) = absurd (omega arith)
not_only form k (a ∷ b ∷ rest) h = refl

-- a command on a channel, by what its only word is
pub channel_over : (form : Text) (k : Text → Program) (xs : List Text) (result : Result HostCall Interruption) (i y : Interruption) → result ≡ Err y → y ≡ i → Interrupts i (λ e. (k : Text → Program) → IsOver (on_channel form k xs) e) → IsCall (on_channel form k xs) result
channel_over form k xs result i y is same h = ended_err result i y _ (λ e. (k : Text → Program) → IsOver (on_channel form k xs) e) (IsOver (on_channel form k xs)) is same h (λ e f. f k)

-- the mode that a word names, by which of the three words it is
abbrev chosen : Bool → Bool → Bool → Result OpenMode BadMode
chosen a b c = if a then Ok mode.Read else (if b then Ok mode.Write else (if c then Ok mode.Append else Err (record {})))

-- the word for a mode names it, and another word none
by_modes : (word : Text) (m : OpenMode) (a b c : Bool) → bytes_eq word (codes "r") ≡ a → bytes_eq word (codes "w") ≡ b → bytes_eq word (codes "a") ≡ c →
    chosen a b c ≡ Ok m → (is_mode word ≡ true) × (word ≡ mode_text m)
by_modes word m true b c e f g h = let same : mode.Read ≡ m = cc in ((λ i. e i || f i || g i), (bytes_eq-Decides word (codes "r")).0 e ∙ ap mode_text same)
by_modes word m false true c e f g h = let same : mode.Write ≡ m = cc in ((λ i. e i || f i || g i), (bytes_eq-Decides word (codes "w")).0 f ∙ ap mode_text same)
by_modes word m false false true e f g h = let same : mode.Append ≡ m = cc in ((λ i. e i || f i || g i), (bytes_eq-Decides word (codes "a")).0 g ∙ ap mode_text same)
by_modes word m false false false e f g h = unnamed (record {}) h
  where
    unnamed : (bad : BadMode) → Err bad ≡ Ok m → (is_mode word ≡ true) × (word ≡ mode_text m)
    unnamed bad k = let clash : Err bad ≡ Ok m = k in absurd cc

pub mode_is : (word : Text) (m : OpenMode) → mode_of word ≡ Ok m → (is_mode word ≡ true) × (word ≡ mode_text m)
mode_is word m h = by_modes word m _ _ _ refl refl refl h

by_no_modes : (word : Text) (bad : BadMode) (a b c : Bool) → bytes_eq word (codes "r") ≡ a → bytes_eq word (codes "w") ≡ b → bytes_eq word (codes "a") ≡ c →
    chosen a b c ≡ Err bad → is_mode word ≡ false
by_no_modes word bad true b c e f g h = let clash : Ok mode.Read ≡ Err bad = h in cc
by_no_modes word bad false true c e f g h = let clash : Ok mode.Write ≡ Err bad = h in cc
by_no_modes word bad false false true e f g h = let clash : Ok mode.Append ≡ Err bad = h in cc
by_no_modes word bad false false false e f g h = λ i. e i || f i || g i

pub mode_is_none : (word : Text) (bad : BadMode) → mode_of word ≡ Err bad → is_mode word ≡ false
mode_is_none word bad h = by_no_modes word bad _ _ _ refl refl refl h

-- ## What is read

not_valid : (bytes : Text) → (IsUtf8 bytes → Prim.⊥) → is_utf8 bytes ≡ false
not_valid bytes bad = by (is_utf8 bytes) refl
  where
    by : (b : Bool) → is_utf8 bytes ≡ b → is_utf8 bytes ≡ false
    by true e = elim (bad (IsUtf8-from_is_utf8 bytes e)) [ ]
    by false e = e

within : (bytes : Text) → length bytes ≤ 16777216 → fits bytes ≡ true
within bytes h = grind (arith, nat_tests)

beyond : (bytes : Text) → 16777216 < length bytes → fits bytes ≡ false
beyond bytes h = grind (arith, nat_tests)

pub reads_whole : (x bytes value : Text) → length bytes ≤ 16777216 → IsUtf8 bytes → value ≡ bytes → (k : Text → Program) → read_from x bytes k ≡ k value
reads_whole x bytes value h u same k =
    ap (λ b. either b (either (is_utf8 bytes) (k bytes) (fails (not_utf8 x))) (done too_long)) (within bytes h)
    ∙ ap (λ b. either b (k bytes) (fails (not_utf8 x))) (is_utf8-from_IsUtf8 bytes u) ∙ ap k (sym same)

pub reads_long : (x bytes : Text) (e : Reply) → 16777216 < length bytes → e ≡ Completed too_long → (k : Text → Program) → IsOver (read_from x bytes k) e
reads_long x bytes e h is k = over_by _ too_long e (ap (λ b. either b (either (is_utf8 bytes) (k bytes) (fails (not_utf8 x))) (done too_long)) (beyond bytes h)) is

pub reads_bad : (x bytes : Text) (e : Reply) → length bytes ≤ 16777216 → (IsUtf8 bytes → Prim.⊥) → e ≡ Completed (failing (not_utf8 x)) → (k : Text → Program) → IsOver (read_from x bytes k) e
reads_bad x bytes e h bad is k =
    over_by _ (failing (not_utf8 x)) e
    (ap (λ b. either b (either (is_utf8 bytes) (k bytes) (fails (not_utf8 x))) (done too_long)) (within bytes h) ∙ ap (λ b. either b (k bytes) (fails (not_utf8 x))) (not_valid bytes bad)) is

-- a text that may be too long
pub gives_short : (text value : Text) → value ≡ text → IsWithin text → Ends (gives text) (Ok value)
gives_short text value same h = over_by (gives text) (ok text) _ (ap (λ b. done (either b (ok text) too_long)) (within text h)) (ap (λ (x : Text). Completed (ok x)) same)

pub gives_long : (text : Text) (i : Interruption) → IsPast text → Interrupts i (λ e. e ≡ Completed too_long) → Interrupts i (IsOver (gives text))
gives_long text i h is = over_err (gives text) too_long i (ap (λ b. done (either b (ok text) too_long)) (beyond text h)) is

-- the text that was read is the answer
pub read_ends : (x bytes : Text) (result : Result Text Interruption) → IsRead x bytes result → Ends (read_from x bytes hosting.gives_text) result
read_ends x bytes (Ok text) h = over_by _ (ok text) _ (h hosting.gives_text) refl
read_ends x bytes (Err i) h = Interrupts-more i (λ e. (k : Text → Program) → IsOver (read_from x bytes k) e) (IsOver (read_from x bytes hosting.gives_text)) (λ e f. f hosting.gives_text) h

-- or the script
pub read_is : (x bytes : Text) (result : Result Text Interruption) → IsRead x bytes result → IsScript (read_from x bytes sourcing.evaluates_file) result
read_is x bytes (Ok text) h = h sourcing.evaluates_file
read_is x bytes (Err i) h = Interrupts-more i (λ e. (k : Text → Program) → IsOver (read_from x bytes k) e) (IsOver (read_from x bytes sourcing.evaluates_file)) (λ e f. f sourcing.evaluates_file) h

-- a number in digits
pub minus_one : signed_decimal (negsuc 0) ≡ codes "-1"
minus_one = ap (λ t. 45 ∷ t) (decimal_digit 1 (omega arith))

-- ## Words of `open` and `gets`

pub opens_named : (file name text word : Text) (m : OpenMode) → name ≡ file → word ≡ text → (is_mode word ≡ true) × (word ≡ mode_text m) → hosting.open_file (file ∷ text ∷ []) ≡ hosting.opens name (mode_text m)
opens_named file name text word m same eq named =
    ap (λ (x : Text). hosting.open_file (file ∷ x ∷ [])) (sym eq) ∙ ap (λ b. either b (hosting.opens file word) (fails (hosting.bad_mode word))) named.0
    ∙ ap (hosting.opens file) named.1 ∙ ap (λ (x : Text). hosting.opens x (mode_text m)) (sym same)

pub opens_unnamed : (file text word : Text) (i : Interruption) → word ≡ text → Interrupts i (λ e. (is_mode word ≡ false) × (e ≡ Completed (failing (hosting.bad_mode word)))) → Interrupts i (IsOver (hosting.open_file (file ∷ text ∷ [])))
opens_unnamed file text word i eq h =
    Interrupts-more i (λ e. (is_mode word ≡ false) × (e ≡ Completed (failing (hosting.bad_mode word)))) (IsOver (hosting.open_file (file ∷ text ∷ [])))
    (λ e bad. over_by _ (failing (hosting.bad_mode word)) e (ap (λ (x : Text). hosting.open_file (file ∷ x ∷ [])) (sym eq) ∙ ap (λ b. either b (hosting.opens file word) (fails (hosting.bad_mode word))) bad.0) bad.1) h

pub not_opened : (xs : List Text) → (length xs < 1) ⊎ (3 ≤ length xs) → hosting.open_file xs ≡ fails (wrong_args (codes "open name ?mode?"))
not_opened [] h = refl
not_opened (a ∷ []) (inl h) = absurd (omega arith)
not_opened (a ∷ []) (inr h) = absurd (omega arith)
not_opened (a ∷ b ∷ []) (inl h) = absurd (omega arith)
not_opened (a ∷ b ∷ []) (inr h) = absurd (omega arith)
not_opened (a ∷ b ∷ d ∷ rest) h = refl

pub not_got : (xs : List Text) → (length xs < 1) ⊎ (3 ≤ length xs) → hosting.gets xs ≡ fails (wrong_args (codes "gets channel ?varName?"))
not_got [] h = refl
not_got (a ∷ []) (inl h) = absurd (omega arith)
not_got (a ∷ []) (inr h) = absurd (omega arith)
not_got (a ∷ b ∷ []) (inl h) = absurd (omega arith)
not_got (a ∷ b ∷ []) (inr h) = absurd (omega arith)
not_got (a ∷ b ∷ d ∷ rest) h = refl

-- ## Replies that no such request has

-- the answer is nothing
pub gives_nothing : (x : Program) (value : Text) → x ≡ done (ok []) → value ≡ [] → Ends x (Ok value)
gives_nothing x value same h = over_by x (ok []) _ same (ap (λ (t : Text). Completed (ok t)) h)

pub not_read : (x : Text) (r : TheirReply) → ((bytes : Text) → r ≡ theirs.Line bytes → Prim.⊥) → ((bytes : Text) → r ≡ theirs.Rest bytes → Prim.⊥) → ((why : HostRefusal) → r ≡ theirs.Refused why → Prim.⊥) → hosting.text_read x (reply_of r) ≡ done (ok [])
not_read x (theirs.Opened name) a b d = refl
not_read x (theirs.Line bytes) a b d = absurd (a bytes refl)
not_read x theirs.End a b d = refl
not_read x (theirs.Rest bytes) a b d = absurd (b bytes refl)
not_read x theirs.Done a b d = refl
not_read x (theirs.AtEnd ended) a b d = refl
not_read x (theirs.Refused why) a b d = absurd (d why refl)

pub not_kept : (x name : Text) (r : TheirReply) → ((bytes : Text) → r ≡ theirs.Line bytes → Prim.⊥) → (r ≡ theirs.End → Prim.⊥) → ((why : HostRefusal) → r ≡ theirs.Refused why → Prim.⊥) → hosting.line_read x name (reply_of r) ≡ done (ok [])
not_kept x name (theirs.Opened channel) a n d = refl
not_kept x name (theirs.Line bytes) a n d = absurd (a bytes refl)
not_kept x name theirs.End a n d = absurd (n refl)
not_kept x name (theirs.Rest bytes) a n d = refl
not_kept x name theirs.Done a n d = refl
not_kept x name (theirs.AtEnd ended) a n d = refl
not_kept x name (theirs.Refused why) a n d = absurd (d why refl)

pub no_channel : (x : Text) (r : TheirReply) → ((name : Text) → r ≡ theirs.Opened name → Prim.⊥) → ((why : HostRefusal) → r ≡ theirs.Refused why → Prim.⊥) → hosting.opened x (reply_of r) ≡ done (ok [])
no_channel x (theirs.Opened name) a d = absurd (a name refl)
no_channel x (theirs.Line bytes) a d = refl
no_channel x theirs.End a d = refl
no_channel x (theirs.Rest bytes) a d = refl
no_channel x theirs.Done a d = refl
no_channel x (theirs.AtEnd ended) a d = refl
no_channel x (theirs.Refused why) a d = absurd (d why refl)

pub is_accepted : (x : Text) (r : TheirReply) → ((why : HostRefusal) → r ≡ theirs.Refused why → Prim.⊥) → hosting.accepted x (reply_of r) ≡ done (ok [])
is_accepted x (theirs.Opened name) d = refl
is_accepted x (theirs.Line bytes) d = refl
is_accepted x theirs.End d = refl
is_accepted x (theirs.Rest bytes) d = refl
is_accepted x theirs.Done d = refl
is_accepted x (theirs.AtEnd ended) d = refl
is_accepted x (theirs.Refused why) d = absurd (d why refl)

pub is_closed : (x bytes : Text) (r : TheirReply) → ((why : HostRefusal) → r ≡ theirs.Refused why → Prim.⊥) → sourcing.closed x (asking.HostReply.TheRest bytes) (reply_of r) ≡ read_from x bytes sourcing.evaluates_file
is_closed x bytes (theirs.Opened name) d = refl
is_closed x bytes (theirs.Line line) d = refl
is_closed x bytes theirs.End d = refl
is_closed x bytes (theirs.Rest rest) d = refl
is_closed x bytes theirs.Done d = refl
is_closed x bytes (theirs.AtEnd ended) d = refl
is_closed x bytes (theirs.Refused why) d = absurd (d why refl)

pub not_told : (x : Text) (r : TheirReply) → ((ended : Bool) → r ≡ theirs.AtEnd ended → Prim.⊥) → ((why : HostRefusal) → r ≡ theirs.Refused why → Prim.⊥) → hosting.at_end x (reply_of r) ≡ done (ok [])
not_told x (theirs.Opened name) a d = refl
not_told x (theirs.Line bytes) a d = refl
not_told x theirs.End a d = refl
not_told x (theirs.Rest bytes) a d = refl
not_told x theirs.Done a d = refl
not_told x (theirs.AtEnd ended) a d = absurd (a ended refl)
not_told x (theirs.Refused why) a d = absurd (d why refl)
