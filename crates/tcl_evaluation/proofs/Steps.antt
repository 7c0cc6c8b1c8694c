-- What the parts of words, words and commands come to, step by step.
use Rattle.std.proofs.Common.{◌≡◌, ◌⊎◌, inl, inr, ℕ, pos, ◌≤◌, Bool, true, false, List, [], ◌∷◌, ◌++◌, length, map, Option, Some, None, refl, sym, ◌∙◌, ap, subst, append-nil, append_assoc, arith}
use Rattle.std.proofs.lemmas.Bool.Decides.{nat_tests}
use Rattle.std.specs.Prelude.{Result, Ok, Err, MatchResult, IfErr, IfOk, OnOk}
use Rattle.tcl_core.specs.Runs.{Ending}
use Rattle.tcl_core.specs.Paths.{Path}
use Rattle.tcl_core.specs.Endings.{Completion, Reply, ok}
use Rattle.tcl_core.specs.Endings.Reply.{Completed, Stop, Exit, Cut}
use Rattle.tcl_core.specs.Trees.{Tree, Node}
use Rattle.tcl_core.specs.Programs.{blocked, is_deep}
use Rattle.tcl_core.specs.Programs.Act.{Charge}
use Rattle.tcl_core.specs.Programs.Prog.{done, go, act}
use Rattle.tcl_core.specs.Trees.{effect}
use Rattle.tcl_core.specs.Trees.What.{Nested, Unnested}
use Rattle.tcl_run.proofs.Proceeding.{completed, given_up_after, passed}
use Rattle.tcl_frames.specs.Chain.{read}
use Rattle.tcl_language.specs.Faults.{frame_message}
use Rattle.tcl_language.specs.Instructions.{Instr, Program, Open, fits, too_long, on_ok, on_code, grown, or_fails}
use Rattle.tcl_language.specs.Instructions.Instr.{Script, Commands, Words, Parts, Call}
use Rattle.tcl_run.specs.Language.{language}
use Rattle.tcl_language.specs.Scripts.{script, commands, words, parts, charged, spread, over, element_text}
use Rattle.tcl_parser.specs.declared.fault.Fault.{Fault}
use Rattle.tcl_parser.specs.declared.script.Part.{Part}
use Rattle.tcl_parser.specs.declared.script.Part.TheVariants as part
use Rattle.tcl_parser.specs.Words.{WordRead, Reading}
use Rattle.tcl_prepared.specs.Views.{literal_parts, literal_word}
use Rattle.tcl_run.specs.declared.interruption.Interruption.{Interruption}
use Rattle.tcl_run.specs.declared.interruption.Interruption.TheVariants as interruption
use Rattle.tcl_run.specs.Ends.{Breaks, IfRan, Interrupts, IfEnded, IsFailure, Stays, Gave, too_deep_at}
use Rattle.tcl_language.specs.Table.{called}
use Rattle.tcl_run.specs.Runs.{Counts, IsAt, IsThere, Proceeds, RefusesStep, Ways}
use Rattle.tcl_run.specs.Runs.IsLoss.{unlost}
use Rattle.tcl_text.specs.Lists.{list_of}
use Rattle.tcl_text.specs.Writing.{fault_message}
use Rattle.tcl_text.specs.declared.list.ListFault.{ListFault}
use Rattle.tcl_run.proofs.Endings.{Breaks-both, Interrupts-more, breaks}
use Rattle.tcl_run.proofs.Proceeding.{at_prog, at_reply, at_finish, looks, goes_on, goes_done, reads_on, read_fails, grows, outgrows, charges, charge_refused, nests_done, nest_refused}
use Rattle.tcl_text.specs.declared.integer.Integers.{Integers}
use Rattle.tcl_tree.specs.Own.{Own}
use Rattle.tcl_tree.specs.TreeOf.{tree_of}
use Rattle.tcl_tree.specs.declared.tree.Tree.{Tree as Table}
use Rattle.tcl_tree.specs.declared.tree.Place.{Place as TablePlace}
use Rattle.tcl_frames.specs.declared.fault.FrameFault.{FrameFault}
use Rattle.tcl_value.specs.Limits.{IsWithin}
use Rattle.tcl_value.specs.Texts.{AllWithin}
use Rattle.tcl_calls.specs.Words.{words_of, AtOk, Closes, ClosesBy, Adds, EndsBy}
use Rattle.tcl_evaluation.specs.Scripts.{read_so}

-- how far a program comes that is run in an interpreter where an evaluation is in progress
abbrev pub EndsFrom : {S : Type 0} → Ways S → Table → S → TablePlace → (Integers → Program) → Table → S → Ending → Type 0
EndsFrom ways old o place program new z e = (p : Path) (style : Integers) → IsAt old place p style → Proceeds ways (language style) (tree_of old) o p (program style) (tree_of new) z e

-- the same, wherever the interpreter is
abbrev pub EndsAt : {S : Type 0} → Ways S → Table → S → TablePlace → (Integers → Program) → Table → S → Ending → Type 0
EndsAt ways old o place program new z e = (p : Path) (style : Integers) → IsThere old place p style → Proceeds ways (language style) (tree_of old) o p (program style) (tree_of new) z e

-- ## Interruptions

-- how a text ends that is a word by itself
abbrev pub TextEnds : List ℕ → Reply → Type 0
TextEnds text e = ((fits text ≡ true) × (e ≡ Completed (ok text))) ⊎ ((fits text ≡ false) × (e ≡ Completed too_long))

pub text_ends : (r : Result (List ℕ) Interruption) (text : List ℕ) → IfOk r (λ v. (v ≡ text) × (fits text ≡ true)) → IfErr r (λ i. Interrupts i (λ e. (fits text ≡ false) × (e ≡ Completed too_long))) → IfEnded r (TextEnds text)
text_ends (Ok v) text f g = inl (f.1, ap (λ t. Completed (ok t)) f.0)
text_ends (Err i) text f g = Interrupts-more i _ _ (λ e h. inr h) g

-- how a variable ends that is a word by itself
abbrev pub VariableEnds : List ℕ → Node Own → Reply → Type 0
VariableEnds name n e = ((value : List ℕ) × (read n.own.chain.frames name ≡ Ok value) × (fits value ≡ true) × (e ≡ Completed (ok value))) ⊎ IsFailure frame_message (read n.own.chain.frames name) e

pub variable_ends : (r : Result (List ℕ) Interruption) (name : List ℕ) (n : Node Own) → IfOk r (λ v. fits v ≡ true) → Gave frame_message (read n.own.chain.frames name) r → IfEnded r (VariableEnds name n)
variable_ends (Ok v) name n f g = inl (v, g, f, refl)
variable_ends (Err i) name n f g = Interrupts-more i _ _ (λ e h. inr h) g

pub appended : {A P : Type 0} {B : Reply → Type 0} (Q : Ending → Type 0) (r : Result (Unit {0}) Interruption) → OnOk r A → IfErr r (λ i. Interrupts i B) → (A → P) → ((e : Reply) → B e → Q (Some e)) → Q None → MatchResult r (λ u. P) (λ i. Breaks i Q)
appended Q (Ok u) f g h k n = h f
appended Q (Err i) f g h k n = breaks i _ Q k n g

pub both : {E : Type 0} (A B : Type 0) (r : Result (Unit {0}) E) → OnOk r A → OnOk r B → OnOk r (A × B)
both A B (Ok u) f g = (f, g)
both A B (Err e) f g = tt

-- only want of memory ends it
pub forgets : (A P : Type 0) (Q : Ending → Type 0) (r : Result (Unit {0}) Interruption) → OnOk r A → IfErr r (λ i. i ≡ interruption.Memory) → (A → P) → Q None → MatchResult r (λ u. P) (λ i. Breaks i Q)
forgets A P Q (Ok u) f g h n = h f
forgets A P Q (Err i) f g h n = subst (λ (j : Interruption). Breaks j Q) (sym g) n

-- an evaluation's end that goes no further
pub stays_of : (given : Result (List ℕ) Interruption) (i : Interruption) (P : Ending → Type 0) → given ≡ Err i → IfRan given P → Breaks i Stays → Breaks i (λ e. P e × Stays e)
stays_of given i P same h s = Breaks-both i P Stays _ (λ e p q. (p, q)) (subst (λ (x : Result (List ℕ) Interruption). IfRan x P) same h) s

-- a text within the limit of a value
pub within_fits : (text : List ℕ) → length text ≤ 16777216 → fits text ≡ true
within_fits text h = grind (arith, nat_tests)

-- a command that has words
some_words : (items : List (List ℕ)) → 1 ≤ length items → charged items ≡ act Charge (λ T. go (Call items) done)
some_words [] h = absurd (omega arith)
some_words (w ∷ ws) h = refl

module _ {S : Type 0} {ways : Ways S} (style : Integers) where
  -- ## After an inner evaluation

  pub goes_stays : {T U : Tree Own} {o u : S} {p : Path} {i : Instr} (k : List ℕ → Program) (e : Ending) → Stays e →
      Proceeds ways (language style) T o p ((language style).program i) U u e → Proceeds ways (language style) T o p (go i (on_ok k)) U u e
  goes_stays k (Some (Completed c)) s t = goes_on t (at_prog (s k) completed)
  goes_stays k (Some (Stop n m)) s t = passed tt t
  goes_stays k (Some (Exit n)) s t = passed tt t
  goes_stays k (Some (Cut c)) s t = passed tt t
  goes_stays k None s t = passed tt t

  pub goes_text : {T U V : Tree Own} {o u z : S} {p : Path} {i : Instr} {r : Ending} (k : List ℕ → Program) (c : Completion) (text : List ℕ) → c.code ≡ pos 0 → c.text ≡ text →
      Proceeds ways (language style) T o p ((language style).program i) U u (Some (Completed c)) → Proceeds ways (language style) U u p (k text) V z r → Proceeds ways (language style) T o p (go i (on_ok k)) V z r
  goes_text k c text e f t s = goes_on t (at_prog (ap (λ n. on_code n k c) e ∙ ap k f) s)

  -- ## Parts

  pub literal_goes : {T V : Tree Own} {o z : S} {p : Path} {r : Ending} (more : List ℕ) (rest : List Part) (elements : List Open) (before : List ℕ) → fits (before ++ more) ≡ true →
      Proceeds ways (language style) T o p (parts rest elements (before ++ more)) V z r → Proceeds ways (language style) T o p (parts (part.Literal more ∷ rest) elements before) V z r
  literal_goes more rest elements before f t = grows (before ++ more) (λ all. go (Parts rest elements all) done) f (goes_done {i = Parts rest elements (before ++ more)} t)

  pub literal_long : {T : Tree Own} {o : S} {p : Path} {r : Reply} (more : List ℕ) (rest : List Part) (elements : List Open) (before : List ℕ) → fits (before ++ more) ≡ false → r ≡ Completed too_long →
      Proceeds ways (language style) T o p (parts (part.Literal more ∷ rest) elements before) T o (Some r)
  literal_long more rest elements before f e = outgrows (before ++ more) (λ all. go (Parts rest elements all) done) f e

  pub variable_goes : {T V : Tree Own} {o z : S} {p : Path} {n : Node Own} {r : Ending} (name value : List ℕ) (rest : List Part) (elements : List Open) (before : List ℕ) → T p ≡ Some n → read n.own.chain.frames name ≡ Ok value → fits (before ++ value) ≡ true →
      Proceeds ways (language style) T o p (parts rest elements (before ++ value)) V z r → Proceeds ways (language style) T o p (parts (part.Variable name ∷ rest) elements before) V z r
  variable_goes name value rest elements before there e f t = looks there (reads_on frame_message (λ v. grown (before ++ v) (λ all. go (Parts rest elements all) done)) e (grows (before ++ value) (λ all. go (Parts rest elements all) done) f (goes_done {i = Parts rest elements (before ++ value)} t)))

  pub variable_fails : {T : Tree Own} {o : S} {p : Path} {n : Node Own} {r : Reply} (name : List ℕ) (rest : List Part) (elements : List Open) (before : List ℕ) → T p ≡ Some n → IsFailure frame_message (read n.own.chain.frames name) r →
      Proceeds ways (language style) T o p (parts (part.Variable name ∷ rest) elements before) T o (Some r)
  variable_fails name rest elements before there e = looks there (read_fails frame_message _ _ _ e)

  pub variable_long : {T : Tree Own} {o : S} {p : Path} {n : Node Own} {r : Reply} (name value : List ℕ) (rest : List Part) (elements : List Open) (before : List ℕ) → T p ≡ Some n → read n.own.chain.frames name ≡ Ok value → fits (before ++ value) ≡ false → r ≡ Completed too_long →
      Proceeds ways (language style) T o p (parts (part.Variable name ∷ rest) elements before) T o (Some r)
  variable_long name value rest elements before there e f g = looks there (reads_on frame_message (λ v. grown (before ++ v) (λ all. go (Parts rest elements all) done)) e (outgrows (before ++ value) (λ all. go (Parts rest elements all) done) f g))

  pub lone_literal : {T : Tree Own} {o : S} {p : Path} (x : Part) (text : List ℕ) (e : Reply) → x ≡ part.Literal text → TextEnds text e → Proceeds ways (language style) T o p (parts (x ∷ []) [] []) T o (Some e)
  lone_literal x text e is (inl h) = at_prog (ap (λ (y : Part). parts (y ∷ []) [] []) is) (literal_goes text [] [] [] h.0 (at_reply h.1 completed))
  lone_literal x text e is (inr h) = at_prog (ap (λ (y : Part). parts (y ∷ []) [] []) is) (literal_long text [] [] [] h.0 h.1)

  pub lone_variable : {T : Tree Own} {o : S} {p : Path} {n : Node Own} (x : Part) (name : List ℕ) (e : Reply) → x ≡ part.Variable name → T p ≡ Some n → VariableEnds name n e → Proceeds ways (language style) T o p (parts (x ∷ []) [] []) T o (Some e)
  lone_variable x name e is there (inl h) = at_prog (ap (λ (y : Part). parts (y ∷ []) [] []) is) (variable_goes name h.0 [] [] [] there h.1 h.2 (at_reply h.3 completed))
  lone_variable x name e is there (inr h) = at_prog (ap (λ (y : Part). parts (y ∷ []) [] []) is) (variable_fails name [] [] [] there h)

  pub element_goes : {T V : Tree Own} {o z : S} {p : Path} {r : Ending} (name : List ℕ) (rest : List Part) (elements : List Open) (before : List ℕ) →
      Proceeds ways (language style) T o p (parts rest (record { name = name; before = before } ∷ elements) []) V z r → Proceeds ways (language style) T o p (parts (part.Element name ∷ rest) elements before) V z r
  element_goes name rest elements before t = goes_done t

  pub script_stays : {T U : Tree Own} {o u : S} {p : Path} (text : List ℕ) (rest : List Part) (elements : List Open) (before : List ℕ) (e : Ending) → Stays e →
      Proceeds ways (language style) T o p (script text) U u e → Proceeds ways (language style) T o p (parts (part.Script text ∷ rest) elements before) U u e
  script_stays text rest elements before e s t = goes_stays {i = Script text} _ e s t

  pub script_goes : {T U V : Tree Own} {o u z : S} {p : Path} {r : Ending} (text value : List ℕ) (rest : List Part) (elements : List Open) (before : List ℕ) (c : Completion) → c.code ≡ pos 0 → c.text ≡ value →
      Proceeds ways (language style) T o p (script text) U u (Some (Completed c)) → fits (before ++ value) ≡ true → Proceeds ways (language style) U u p (parts rest elements (before ++ value)) V z r →
      Proceeds ways (language style) T o p (parts (part.Script text ∷ rest) elements before) V z r
  script_goes text value rest elements before c e f t g s = goes_text {i = Script text} (λ v. grown (before ++ v) (λ all. go (Parts rest elements all) done)) c value e f t (grows (before ++ value) (λ all. go (Parts rest elements all) done) g (goes_done {i = Parts rest elements (before ++ value)} s))

  pub script_long : {T U : Tree Own} {o u : S} {p : Path} {r : Reply} (text value : List ℕ) (rest : List Part) (elements : List Open) (before : List ℕ) (c : Completion) → c.code ≡ pos 0 → c.text ≡ value →
      Proceeds ways (language style) T o p (script text) U u (Some (Completed c)) → fits (before ++ value) ≡ false → r ≡ Completed too_long →
      Proceeds ways (language style) T o p (parts (part.Script text ∷ rest) elements before) U u (Some r)
  script_long text value rest elements before c e f t g d = goes_text {i = Script text} (λ v. grown (before ++ v) (λ all. go (Parts rest elements all) done)) c value e f t (outgrows (before ++ value) (λ all. go (Parts rest elements all) done) g d)

  pub lone_script : {T U : Tree Own} {o u : S} {p : Path} (x : Part) (text value : List ℕ) (c : Completion) → x ≡ part.Script text → c.code ≡ pos 0 → c.text ≡ value → fits value ≡ true →
      Proceeds ways (language style) T o p (script text) U u (Some (Completed c)) → Proceeds ways (language style) T o p (parts (x ∷ []) [] []) U u (Some (Completed (ok value)))
  lone_script x text value c is a b f t = at_prog (ap (λ (y : Part). parts (y ∷ []) [] []) is) (script_goes text value [] [] [] c a b t f completed)

  pub lone_stays : {T U : Tree Own} {o u : S} {p : Path} (x : Part) (text : List ℕ) (e : Ending) (rest : List Part) (elements : List Open) (before : List ℕ) → x ≡ part.Script text → Stays e →
      Proceeds ways (language style) T o p (script text) U u e → Proceeds ways (language style) T o p (parts (x ∷ rest) elements before) U u e
  lone_stays x text e rest elements before is s t = at_prog (ap (λ (y : Part). parts (y ∷ rest) elements before) is) (script_stays text rest elements before e s t)

  -- given up behind a script
  pub script_lost : {T U V : Tree Own} {o u : S} {p : Path} {e : Ending} (text : List ℕ) (rest : List Part) (elements : List Open) (before : List ℕ) →
      Proceeds ways (language style) T o p (script text) U u e → Proceeds ways (language style) T o p (parts (part.Script text ∷ rest) elements before) V u None
  script_lost text rest elements before t = passed {i = Script text} tt (given_up_after t unlost)

  pub closing_goes : {T V : Tree Own} {o z : S} {p : Path} {n : Node Own} {r : Ending} (rest : List Part) (elements next : List Open) (key all : List ℕ) → T p ≡ Some n → Closes n elements key next all →
      Proceeds ways (language style) T o p (parts rest next all) V z r → Proceeds ways (language style) T o p (parts (part.EndElement ∷ rest) elements key) V z r
  closing_goes rest [] next key all there h t = elim h [ ]
  closing_goes {T} {V} {o} {z} {p} {n} {r} rest (x ∷ xs) next key all there h t = looks there (by (read n.own.chain.frames (element_text x.name key)) h.1)
    where
      by : (o2 : Result (List ℕ) FrameFault) → AtOk o2 (λ v. (fits (x.before ++ v) ≡ true) × (all ≡ x.before ++ v)) → Proceeds ways (language style) T o p (or_fails frame_message o2 (λ value. grown (x.before ++ value) (λ more. go (Parts rest xs more) done))) V z r
      by (Ok v) g = grows (x.before ++ v) (λ all2. go (Parts rest xs all2) done) g.0 (goes_done {i = Parts rest xs (x.before ++ v)} (at_prog (ap (λ es. parts rest es (x.before ++ v)) (sym h.0) ∙ ap (parts rest next) (sym g.1)) t))
      by (Err f) g = elim g [ ]

  pub closing_ends : {T : Tree Own} {o : S} {p : Path} {n : Node Own} {r : Reply} (rest : List Part) (elements : List Open) (key : List ℕ) → T p ≡ Some n → ClosesBy n elements key r →
      Proceeds ways (language style) T o p (parts (part.EndElement ∷ rest) elements key) T o (Some r)
  closing_ends rest [] key there h = at_reply h completed
  closing_ends {T} {o} {p} {n} {r} rest (x ∷ xs) key there (inl h) = looks there (read_fails frame_message _ _ _ h)
  closing_ends {T} {o} {p} {n} {r} rest (x ∷ xs) key there (inr h) = looks there (by (read n.own.chain.frames (element_text x.name key)) h)
    where
      by : (o2 : Result (List ℕ) FrameFault) → AtOk o2 (λ v. (fits (x.before ++ v) ≡ false) × (r ≡ Completed too_long)) → Proceeds ways (language style) T o p (or_fails frame_message o2 (λ value. grown (x.before ++ value) (λ more. go (Parts rest xs more) done))) T o (Some r)
      by (Ok v) g = outgrows (x.before ++ v) (λ all2. go (Parts rest xs all2) done) g.0 g.1
      by (Err f) g = elim g [ ]

  -- ## Words

  pub spread_goes : {T V : Tree Own} {o z : S} {p : Path} {r : Ending} (expand : Bool) (text : List ℕ) (before after : List (List ℕ)) (k : List (List ℕ) → Program) → Adds (words_of expand text) before after →
      Proceeds ways (language style) T o p (k after) V z r → Proceeds ways (language style) T o p (spread expand text (λ more. k (before ++ more))) V z r
  spread_goes false text before after k e t = at_prog (ap k (sym e)) t
  spread_goes {T} {V} {o} {z} {p} {r} true text before after k e t = by (list_of text) e
    where
      by : (read : Result (List (List ℕ)) ListFault) → Adds read before after → Proceeds ways (language style) T o p (or_fails fault_message read (λ more. k (before ++ more))) V z r
      by (Ok more) f = at_prog (ap k (sym f)) t
      by (Err f) g = elim g [ ]

  pub spread_fails : {T : Tree Own} {o : S} {p : Path} (expand : Bool) (text : List ℕ) (k : List (List ℕ) → Program) (e : Reply) → IsFailure fault_message (words_of expand text) e →
      Proceeds ways (language style) T o p (spread expand text k) T o (Some e)
  spread_fails false text k e f = elim f [ ]
  spread_fails true text k e f = read_fails fault_message _ _ _ f

  pub word_stays : {T U : Tree Own} {o u : S} {p : Path} (word : WordRead) (rest : List WordRead) (before : List (List ℕ)) (e : Ending) → Stays e →
      Proceeds ways (language style) T o p (parts word.parts [] []) U u e → Proceeds ways (language style) T o p (words (word ∷ rest) before) U u e
  word_stays word rest before e s t = goes_stays {i = Parts word.parts [] []} (λ text. spread word.expand text (λ more. go (Words rest (before ++ more)) done)) e s t

  pub word_fails : {T U : Tree Own} {o u : S} {p : Path} (word : WordRead) (rest : List WordRead) (before : List (List ℕ)) (c : Completion) (text : List ℕ) (e : Reply) (expand : Bool) → expand ≡ word.expand → c.code ≡ pos 0 → c.text ≡ text → IsFailure fault_message (words_of expand text) e →
      Proceeds ways (language style) T o p (parts word.parts [] []) U u (Some (Completed c)) → Proceeds ways (language style) T o p (words (word ∷ rest) before) U u (Some e)
  word_fails word rest before c text e expand same a b f t = goes_text {i = Parts word.parts [] []} (λ x. spread word.expand x (λ more. go (Words rest (before ++ more)) done)) c text a b t (spread_fails word.expand text _ e (subst (λ (x : Bool). IsFailure fault_message (words_of x text) e) same f))

  pub word_goes : {T U V : Tree Own} {o u z : S} {p : Path} {r : Ending} (word : WordRead) (rest : List WordRead) (before after : List (List ℕ)) (c : Completion) (text : List ℕ) (expand : Bool) → expand ≡ word.expand → c.code ≡ pos 0 → c.text ≡ text → Adds (words_of expand text) before after →
      Proceeds ways (language style) T o p (parts word.parts [] []) U u (Some (Completed c)) → Proceeds ways (language style) U u p (words rest after) V z r → Proceeds ways (language style) T o p (words (word ∷ rest) before) V z r
  word_goes word rest before after c text expand same a b f t s =
      goes_text {i = Parts word.parts [] []} (λ x. spread word.expand x (λ more. go (Words rest (before ++ more)) done)) c text a b t
      (spread_goes word.expand text before after (λ all. go (Words rest all) done) (subst (λ (x : Bool). Adds (words_of x text) before after) same f) (goes_done {i = Words rest after} s))

  -- a word that isn't spread adds its text
  pub single_goes : {T U V : Tree Own} {o u z : S} {p : Path} {r : Ending} (word : WordRead) (rest : List WordRead) (before : List (List ℕ)) (c : Completion) (text : List ℕ) → word.expand ≡ false → c.code ≡ pos 0 → c.text ≡ text →
      Proceeds ways (language style) T o p (parts word.parts [] []) U u (Some (Completed c)) → Proceeds ways (language style) U u p (words rest (before ++ text ∷ [])) V z r → Proceeds ways (language style) T o p (words (word ∷ rest) before) V z r
  single_goes word rest before c text single a b t s = word_goes word rest before (before ++ text ∷ []) c text false (sym single) a b refl t s

  -- a word that stands for itself
  pub lone : {T : Tree Own} {o : S} {p : Path} (x : List ℕ) → fits x ≡ true → Proceeds ways (language style) T o p (parts (literal_parts x) [] []) T o (Some (Completed (ok x)))
  lone [] h = completed
  lone (b ∷ s) h = literal_goes (b ∷ s) [] [] [] h completed

  -- words that do so come to the command's step, behind those before them
  pub lends : {T V : Tree Own} {o z : S} {p : Path} {r : Ending} (ts before : List (List ℕ)) → AllWithin ts →
      Proceeds ways (language style) T o p (words [] (before ++ ts)) V z r → Proceeds ways (language style) T o p (words (map literal_word ts) before) V z r
  lends [] before h t = at_prog (ap (words []) (sym (append-nil before))) t
  lends (x ∷ xs) before h t =
      single_goes (literal_word x) (map literal_word xs) before (ok x) x refl refl refl (lone x (within_fits x h.0))
      (lends xs (before ++ x ∷ []) h.1 (at_prog (ap (words []) (append_assoc before (x ∷ []) xs)) t))

  -- and so do two before others
  pub two_lend : {T V : Tree Own} {o z : S} {p : Path} {r : Ending} (a b : List ℕ) (rest : List WordRead) → IsWithin a → IsWithin b →
      Proceeds ways (language style) T o p (words rest (a ∷ b ∷ [])) V z r → Proceeds ways (language style) T o p (words (literal_word a ∷ literal_word b ∷ rest) []) V z r
  two_lend a b rest h k t =
      single_goes (literal_word a) (literal_word b ∷ rest) [] (ok a) a refl refl refl (lone a (within_fits a h))
      (single_goes (literal_word b) rest (a ∷ []) (ok b) b refl refl refl (lone b (within_fits b k)) t)

  -- given up behind a word
  pub word_lost : {T U V : Tree Own} {o u : S} {p : Path} {e : Ending} (word : WordRead) (rest : List WordRead) (before : List (List ℕ)) →
      Proceeds ways (language style) T o p (parts word.parts [] []) U u e → Proceeds ways (language style) T o p (words (word ∷ rest) before) V u None
  word_lost word rest before t = passed {i = Parts word.parts [] []} tt (given_up_after t unlost)

  -- ## Steps

  pub no_words : {T : Tree Own} {o : S} {p : Path} {r : Reply} (items : List (List ℕ)) → items ≡ [] → r ≡ Completed (ok []) → Proceeds ways (language style) T o p (words [] items) T o (Some r)
  no_words items e f = at_prog (ap charged e) (at_reply f completed)

  pub charged_stops : {T U : Tree Own} {o z : S} {p : Path} {r : Reply} (items : List (List ℕ)) → 1 ≤ length items → RefusesStep ways.goes T o p U z r → Proceeds ways (language style) T o p (words [] items) U z (Some r)
  charged_stops items h s = at_prog (some_words items h) (charge_refused s)

  pub charged_calls : {T U V : Tree Own} {o u z : S} {p : Path} {r : Ending} (items : List (List ℕ)) → 1 ≤ length items → Counts ways.goes T o p U u →
      Proceeds ways (language style) U u p (called style items) V z r → Proceeds ways (language style) T o p (words [] items) V z r
  charged_calls items h counts t = at_prog (some_words items h) (charges counts (goes_done {i = Call items} t))

  -- ## Commands

  pub command_stays : {T U : Tree Own} {o u : S} {p : Path} (ws : List WordRead) (rest : List (List WordRead)) (fault : Option Fault) (last : List ℕ) (e : Ending) → Stays e →
      Proceeds ways (language style) T o p (words ws []) U u e → Proceeds ways (language style) T o p (commands (ws ∷ rest) fault last) U u e
  command_stays ws rest fault last e s t = goes_stays {i = Words ws []} (λ text. go (Commands rest fault text) done) e s t

  pub command_goes : {T U V : Tree Own} {o u z : S} {p : Path} {r : Ending} (ws : List WordRead) (rest : List (List WordRead)) (fault : Option Fault) (last : List ℕ) (c : Completion) (text : List ℕ) → c.code ≡ pos 0 → c.text ≡ text →
      Proceeds ways (language style) T o p (words ws []) U u (Some (Completed c)) → Proceeds ways (language style) U u p (commands rest fault text) V z r → Proceeds ways (language style) T o p (commands (ws ∷ rest) fault last) V z r
  command_goes ws rest fault last c text a b t s = goes_text {i = Words ws []} (λ x. go (Commands rest fault x) done) c text a b t (goes_done {i = Commands rest fault text} s)

  pub is_over : {T : Tree Own} {o : S} {p : Path} (fault : Option Fault) (last : List ℕ) (e : Reply) → EndsBy (over fault last) e → Proceeds ways (language style) T o p (commands [] fault last) T o (Some e)
  is_over None last e h = at_reply h completed
  is_over (Some fault) last e h = at_reply h completed

  -- ## A script

  pub reads_end : {T U V W : Tree Own} {o z : S} {p : Path} {r : Ending} (read : Reading) → blocked is_deep T p ≡ None → U ≡ effect p Nested T → W ≡ effect p Unnested V →
      Proceeds ways (language style) U o p (commands read.commands read.fault []) V z r → Proceeds ways (language style) T o p (read_so read) W z r
  reads_end read free e f t = nests_done {i = Commands read.commands read.fault []} free e f t

  pub read_refused : {T U : Tree Own} {o : S} {p : Path} {r : Reply} (read : Reading) (n : ℕ) → blocked is_deep T p ≡ Some n → U ≡ T → r ≡ too_deep_at n → Proceeds ways (language style) T o p (read_so read) U o (Some r)
  read_refused read n full same e = at_finish same (at_reply e (nest_refused {i = Commands read.commands read.fault []} n full))
