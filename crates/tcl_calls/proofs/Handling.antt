-- Which handler of a `try` handles a completion.
use Rattle.std.proofs.Common.{◌≡◌, ℕ, ℤ, zero, suc, ◌+◌, ◌-◌, ◌<◌, ◌≤◌, ◌⊎◌, inl, inr, pos, negsuc, Bool, true, false, List, [], ◌∷◌, ◌++◌, take, drop, get_or, length, Option, Some, None, refl, sym, ◌∙◌, ap, subst, append_assoc, append-nil, arith}
use Rattle.std.specs.Ordering.{int_eq}
use Rattle.std.specs.Prelude.{Result, Ok, Err, codes, is_some, ◌&&◌}
use Rattle.std.proofs.lemmas.Bool.Decides.{Decides-int_eq}
use Rattle.std.specs.Str.{bytes_eq}
use Rattle.std.proofs.Math.Seq.{take-length}
use Rattle.tcl_core.specs.Endings.{Completion, Reply, ok}
use Rattle.tcl_core.specs.Endings.Reply.{Completed}
use Rattle.tcl_flow.specs.Returning.{code_of, options_message}
use Rattle.tcl_flow.specs.declared.returning.OptionsFault.TheVariants.{BadCode}
use Rattle.tcl_flow.specs.View.{completion_of, errorcode_of}
use Rattle.tcl_flow.specs.declared.completion.Completion.{Completion as TheCompletion}
use Rattle.tcl_core.specs.Paths.{Path, Text}
use Rattle.tcl_core.specs.Trees.{Tree}
use Rattle.tcl_language.specs.Expressions.{runs_last}
use Rattle.tcl_language.specs.Instructions.{Handler, Handles, Program, either, or_fails}
use Rattle.tcl_language.specs.Faults.{wrong_args}
use Rattle.tcl_language.specs.Instructions.Handles.{of_errors}
use Rattle.tcl_language.specs.Trying.{Tried, alone, begins, begins_read, code_or, first_script, handled_by, handles_of, is_error, is_handled, keeps, led_by, pattern_or, tried_of, try_form}
use Rattle.tcl_run.specs.Ends.{IsFailure, failing, itself}
use Rattle.tcl_run.specs.declared.interruption.Interruption.{Interruption}
use Rattle.tcl_run.specs.Plain.{Does}
use Rattle.tcl_text.specs.Lists.{list_of}
use Rattle.tcl_text.specs.declared.list.ListFault.{ListFault}
use Rattle.tcl_tree.specs.Own.{Own}
use Rattle.tcl_text.specs.Writing.{fault_message}
use Rattle.tcl_text.specs.declared.integer.Integers.{Integers}
use Rattle.tcl_words.specs.Outcomes.{next}
use Rattle.tcl_text.proofs.Items.{item_on}
use Rattle.tcl_calls.specs.Trying.{ReadsHandles}
use Rattle.tcl_calls.specs.declared.trying.Handles as kind

-- ## The first two words of a handler

-- what is read for the words is read for what they come to
pub reads_as : (r s : Result Handles Text) (given : Result kind.Handles Interruption) → r ≡ s → ReadsHandles s given → ReadsHandles r given
reads_as r s given same h = subst (λ (x : Result Handles Text). ReadsHandles x given) (sym same) h

pub code_read : (style : Integers) (word own : Text) (found : Option ℤ) → found ≡ code_of style own → own ≡ word → code_or word (code_of style word) ≡ code_or word found
code_read style word own found is same = sym (ap (code_or word) (is ∙ ap (code_of style) same))

pub code_refused : (style : Integers) (word own message : Text) (found : Option ℤ) (e : Reply) → found ≡ code_of style own → own ≡ word → found ≡ None → message ≡ options_message (BadCode word) → e ≡ Completed (failing message) →
    IsFailure itself (code_or word (code_of style word)) e
code_refused style word own message found e is same none text h =
    subst (λ (r : Result Handles Text). IsFailure itself r e) (sym (code_read style word own found is same ∙ ap (code_or word) none)) (h ∙ ap (λ (t : Text). Completed (failing t)) text)

pub pattern_refused : (word own : Text) (e : Reply) → own ≡ word → IsFailure fault_message (list_of own) e → IsFailure itself (pattern_or (list_of word)) e
pattern_refused word own e same h = by (list_of word) (subst (λ (t : Text). IsFailure fault_message (list_of t) e) same h)
  where
    by : (r : Result (List Text) ListFault) → IsFailure fault_message r e → IsFailure itself (pattern_or r) e
    by (Ok xs) f = absurd f
    by (Err g) f = f

pub at_on : (style : Integers) (word what : Text) → bytes_eq word (codes "on") ≡ true → handles_of style word what ≡ code_or what (code_of style what)
at_on style word what a = ap (λ b. either b (code_or what (code_of style what)) (either (bytes_eq word (codes "trap")) (pattern_or (list_of what)) (Err (wrong_args try_form)))) a

not_on : (style : Integers) (word what : Text) → bytes_eq word (codes "on") ≡ false → handles_of style word what ≡ either (bytes_eq word (codes "trap")) (pattern_or (list_of what)) (Err (wrong_args try_form))
not_on style word what a = ap (λ b. either b (code_or what (code_of style what)) (either (bytes_eq word (codes "trap")) (pattern_or (list_of what)) (Err (wrong_args try_form)))) a

pub at_trap : (style : Integers) (word what : Text) → bytes_eq word (codes "on") ≡ false → bytes_eq word (codes "trap") ≡ true → handles_of style word what ≡ pattern_or (list_of what)
at_trap style word what a b = not_on style word what a ∙ ap (λ t. either t (pattern_or (list_of what)) (Err (wrong_args try_form))) b

pub at_neither : (style : Integers) (word what : Text) → bytes_eq word (codes "on") ≡ false → bytes_eq word (codes "trap") ≡ false → handles_of style word what ≡ Err (wrong_args try_form)
at_neither style word what a b = not_on style word what a ∙ ap (λ t. either t (pattern_or (list_of what)) (Err (wrong_args try_form))) b

-- ## Words

-- words that are too few for a handler
pub last_read : (style : Integers) (words : List Text) (word script : Text) → words ≡ word ∷ script ∷ [] → bytes_eq word (codes "finally") ≡ true → tried_of style words ≡ Ok (alone (Some script))
last_read style words word script is same = ap (tried_of style) is ∙ ap (λ b. either b (Ok (alone (Some script))) (Err (wrong_args try_form))) same

pub last_unread : (style : Integers) (words : List Text) (word script : Text) → words ≡ word ∷ script ∷ [] → bytes_eq word (codes "finally") ≡ false → tried_of style words ≡ Err (wrong_args try_form)
last_unread style words word script is other = ap (tried_of style) is ∙ ap (λ b. either b (Ok (alone (Some script))) (Err (wrong_args try_form))) other

pub few_unread : (style : Integers) (words : List Text) → 1 ≤ length words → length words < 4 → (length words < 2) ⊎ (3 ≤ length words) → tried_of style words ≡ Err (wrong_args try_form)
few_unread style [] some few h = absurd (omega arith)
few_unread style (a ∷ []) some few h = refl
few_unread style (a ∷ b ∷ []) some few (inl h) = absurd (omega arith)
few_unread style (a ∷ b ∷ []) some few (inr h) = absurd (omega arith)
few_unread style (a ∷ b ∷ d ∷ []) some few h = refl
few_unread style (a ∷ b ∷ d ∷ e ∷ ws) some few h = absurd (omega arith)

-- these handlers, and then what was read
abbrev pub behind : List Handler → Result Tried Text → Result Tried Text
behind handlers (Ok t) = Ok (record { handlers = handlers ++ t.handlers; last = t.last })
behind handlers (Err m) = Err m

pub behind_none : (r : Result Tried Text) → behind [] r ≡ r
behind_none (Ok t) = refl
behind_none (Err m) = refl

behind_led : (handlers : List Handler) (h : Handler) (r : Result Tried Text) → behind handlers (next r (λ rest. Ok (led_by h rest))) ≡ behind (handlers ++ h ∷ []) r
behind_led handlers h (Ok t) = ap (λ (hs : List Handler). Ok (record { handlers = hs; last = t.last })) (sym (append_assoc handlers (h ∷ []) t.handlers))
behind_led handlers h (Err m) = refl

-- four words, and those behind them
pub four_left : (words : List Text) (a b c d : Text) → 4 ≤ length words → a ≡ get_or words 0 a → b ≡ get_or words 1 b → c ≡ get_or words 2 c → d ≡ get_or words 3 d → words ≡ a ∷ b ∷ c ∷ d ∷ take (length words - 4) (drop 4 words)
four_left [] a b c d l e f g h = absurd (omega arith)
four_left (w ∷ []) a b c d l e f g h = absurd (omega arith)
four_left (w ∷ x ∷ []) a b c d l e f g h = absurd (omega arith)
four_left (w ∷ x ∷ y ∷ []) a b c d l e f g h = absurd (omega arith)
four_left (w ∷ x ∷ y ∷ z ∷ ws) a b c d l e f g h =
    let n : length (w ∷ x ∷ y ∷ z ∷ ws) - 4 ≡ length ws = omega arith in
    (λ i. sym e i ∷ sym f i ∷ sym g i ∷ sym h i ∷ ws) ∙ ap (λ vs. a ∷ b ∷ c ∷ d ∷ vs) (sym (ap (λ m. take m ws) n ∙ take-length ws))

-- a handler is read
pub handler_on : (style : Integers) (before : List Handler) (words : List Text) (word what names script : Text) (rest : List Text) (h : Handles) → words ≡ word ∷ what ∷ names ∷ script ∷ rest → handles_of style word what ≡ Ok h →
    behind before (tried_of style words) ≡ behind (before ++ record { handles = h; names = names; script = script } ∷ []) (tried_of style rest)
handler_on style before words word what names script rest h is read =
    ap (λ (ws : List Text). behind before (tried_of style ws)) is
    ∙ ap (λ (r : Result Handles Text). behind before (next r (λ x. next (tried_of style rest) (λ t. Ok (led_by (record { handles = x; names = names; script = script }) t))))) read
    ∙ behind_led before (record { handles = h; names = names; script = script }) (tried_of style rest)

-- or refused
pub handler_refused : (style : Integers) (before : List Handler) (words : List Text) (word what names script : Text) (rest : List Text) (e : Reply) → words ≡ word ∷ what ∷ names ∷ script ∷ rest → IsFailure itself (handles_of style word what) e →
    IsFailure itself (behind before (tried_of style words)) e
handler_refused style before words word what names script rest e is h = subst (λ (ws : List Text). IsFailure itself (behind before (tried_of style ws)) e) (sym is) (by (handles_of style word what) h)
  where
    by : (r : Result Handles Text) → IsFailure itself r e → IsFailure itself (behind before (next r (λ x. next (tried_of style rest) (λ t. Ok (led_by (record { handles = x; names = names; script = script }) t))))) e
    by (Ok x) f = absurd f
    by (Err m) f = f

-- the last script, or that there is none
pub ends_read : (style : Integers) (before : List Handler) (words : List Text) (last : Option Text) → tried_of style words ≡ Ok (alone last) → behind before (tried_of style words) ≡ Ok (record { handlers = before; last = last })
ends_read style before words last e = ap (behind before) e ∙ ap (λ (hs : List Handler). Ok (record { handlers = hs; last = last })) (append-nil before)

pub ends_refused : (before : List Handler) (r : Result Tried Text) (e : Reply) → IsFailure itself r e → IsFailure itself (behind before r) e
ends_refused before (Ok t) e f = absurd f
ends_refused before (Err m) e f = f

-- ## Elements

pub begins_more : (pattern list : List Text) → length list < length pattern → begins pattern list ≡ false
begins_more [] list h = absurd (omega arith)
begins_more (p ∷ pattern) [] h = refl
begins_more (p ∷ pattern) (x ∷ list) h = by (bytes_eq p x) (begins_more pattern list (omega arith))
  where
    by : (b : Bool) → begins pattern list ≡ false → (b && begins pattern list) ≡ false
    by true e = e
    by false e = refl

pub begins_on : (pattern list : List Text) (i : ℕ) (p x : Text) (b : Bool) → i < length pattern → i < length list → p ≡ get_or pattern i p → x ≡ get_or list i x → bytes_eq p x ≡ b →
    begins (drop i pattern) (drop i list) ≡ (b && begins (drop (i + 1) pattern) (drop (i + 1) list))
begins_on pattern list i p x b h k e f t =
    (λ j. begins (item_on pattern i p h e j) (item_on list i x k f j)) ∙ ap (λ c. c && begins (drop (i + 1) pattern) (drop (i + 1) list)) t

pub begins_none : (pattern list : List Text) → pattern ≡ [] → begins pattern list ≡ true
begins_none pattern list e = ap (λ (ps : List Text). begins ps list) e

-- ## Handlers

abbrev pub runs_handler : Completion → Handler → List Handler → Program
runs_handler c h hs = or_fails fault_message (list_of h.names) (λ xs. keeps xs c (runs_last (first_script (h ∷ hs))))

pub handled_on : (c : Completion) (h : Handler) (hs : List Handler) (b : Bool) → b ≡ is_handled c h.handles → handled_by c (h ∷ hs) ≡ either b (runs_handler c h hs) (handled_by c hs)
handled_on c h hs b e = ap (λ t. either t (runs_handler c h hs) (handled_by c hs)) (sym e)

-- an error is the completion of code 1
error_is : (b : Bool) (n : ℤ) → int_eq n (pos 1) ≡ b → is_error n ≡ b
error_is true n e = ap is_error ((Decides-int_eq n (pos 1)).0 e)
error_is false (pos zero) e = refl
error_is false (pos (suc zero)) e = let clash : true ≡ false = sym ((Decides-int_eq (pos 1) (pos 1)).1 refl) ∙ e in cc
error_is false (pos (suc (suc n))) e = refl
error_is false (negsuc n) e = refl

pub errors_on : (c : Completion) (pattern : List Text) (b : Bool) → int_eq c.code (pos 1) ≡ b → is_handled c (of_errors pattern) ≡ (b && begins_read pattern (list_of c.options.errorcode))
errors_on c pattern b e = ap (λ t. t && begins_read pattern (list_of c.options.errorcode)) (error_is b c.code e)

pub script_on : (h : Handler) (hs : List Handler) (b : Bool) → bytes_eq h.script (codes "-") ≡ b → first_script (h ∷ hs) ≡ either b (first_script hs) (Some h.script)
script_on h hs b e = ap (λ t. either t (first_script hs) (Some h.script)) e

-- ## Ordinary completions

pub none_is : (o : Option Text) → is_some o ≡ false → o ≡ None
none_is None e = refl
none_is (Some x) e = let clash : true ≡ false = e in cc

pub ordinary : (c : TheCompletion) → c.code ≡ pos 0 → c.options.code ≡ pos 0 → c.options.level ≡ 0 → c.options.errorcode ≡ None → completion_of c ≡ ok c.text
ordinary c a b d e = λ i. record { code = a i; text = c.text; options = record { code = b i; level = d i; errorcode = errorcode_of (e i) } }

-- ## The variables of a handler

-- the list of their names is none
pub named_fails : (names : Text) (c : Completion) (e : Reply) → IsFailure fault_message (list_of names) e → (T : Tree Own) (p : Path) (k : Program) → Does (or_fails fault_message (list_of names) (λ xs. keeps xs c k)) T p T e
named_fails names c e h T p k = by (list_of names) h
  where
    by : (r : Result (List Text) ListFault) → IsFailure fault_message r e → Does (or_fails fault_message r (λ xs. keeps xs c k)) T p T e
    by (Ok xs) f = elim f [ ]
    by (Err g) f = (refl, f)

pub named_on : (names : Text) (c : Completion) (xs ys : List Text) (k : Program) → list_of names ≡ Ok xs → xs ≡ ys → or_fails fault_message (list_of names) (λ zs. keeps zs c k) ≡ keeps ys c k
named_on names c xs ys k read same = ap (λ (r : Result (List Text) ListFault). or_fails fault_message r (λ zs. keeps zs c k)) read ∙ ap (λ (zs : List Text). keeps zs c k) same
