-- What `switch` and `try` come to.
use Rattle.std.proofs.Common.{◌≡◌, pos, Bool, true, false, List, [], ◌∷◌, Option, Some, None, refl, sym, ap, subst}
use Rattle.std.specs.Prelude.{Result, Ok, Err}
use Rattle.tcl_core.specs.Endings.{Completion, Reply}
use Rattle.tcl_core.specs.Endings.Reply.{Completed}
use Rattle.tcl_core.specs.Paths.{Path, Text}
use Rattle.tcl_core.specs.Programs.Prog.{done}
use Rattle.tcl_core.specs.Runs.{Ending}
use Rattle.tcl_core.specs.Trees.{Tree}
use Rattle.tcl_language.specs.Control.{options_text}
use Rattle.tcl_language.specs.Instructions.{Handler, Program, either, fits, grown, or_fails, too_long}
use Rattle.tcl_language.specs.Instructions.Instr.{Script, Handled}
use Rattle.tcl_language.specs.Scripts.{script}
use Rattle.tcl_language.specs.Trying.{Tried, finishes, handled, keeps, tried_of, try_script}
use Rattle.tcl_language.specs.Variables.{sets}
use Rattle.tcl_run.specs.Language.{language}
use Rattle.tcl_run.specs.Ends.{IsFailure, Stays, itself}
use Rattle.tcl_run.specs.Plain.{Does}
use Rattle.tcl_run.specs.Runs.{Proceeds, Ways}
use Rattle.tcl_run.proofs.Proceeding.{
  IsQuitting,
  at_prog,
  at_start,
  goes_done,
  goes_on,
  grows,
  passed,
  read_fails,
  reads_on,
}
use Rattle.tcl_text.specs.Lists.{list_of}
use Rattle.tcl_text.specs.Writing.{fault_message}
use Rattle.tcl_text.specs.declared.integer.Integers.{Integers}
use Rattle.tcl_text.specs.declared.list.ListFault.{ListFault}
use Rattle.tcl_tree.specs.Own.{Own}
use Rattle.tcl_evaluation.proofs.Steps
use Rattle.tcl_evaluation.proofs.Walking.{Sets, marked, not_failing, set_comes, set_through}

-- ## The variables of a handler

abbrev KeptSo : List Text → Completion → Tree Own → Tree Own → Path → Type 0
KeptSo [] c T V p = V ≡ T
KeptSo (a ∷ []) c T V p = Sets a c.text T V p
KeptSo (a ∷ b ∷ rest) c T V p = (M : Tree Own) × Sets a c.text T M p × (fits (options_text c) ≡ true) × Sets b (options_text c) M V p

kept_through : (names : List Text) (c : Completion) (T V : Tree Own) (p : Path) → Does (keeps names c (done marked)) T p V (Completed marked) → KeptSo names c T V p
kept_through [] c T V p d = d.0
kept_through (a ∷ []) c T V p d =
    let s = set_through a c.text (done marked) T V p d in subst (λ (U : Tree Own). Sets a c.text T U p) (sym s.2.0) s.1
kept_through (a ∷ b ∷ rest) c T V p d =
    let s = set_through a c.text (grown (options_text c) (λ text. sets b text (done marked))) T V p d in by s.0 s.1 (fits (options_text c)) refl s.2
  where
    by : (M : Tree Own) → Sets a c.text T M p → (t : Bool) → fits (options_text c) ≡ t → Does (either t (sets b (options_text c) (done marked)) (done too_long)) M p V (Completed marked) → KeptSo (a ∷ b ∷ rest) c T V p
    by M s true e f = let u = set_through b (options_text c) (done marked) M V p f in (M, s, e, subst (λ (U : Tree Own). Sets b (options_text c) M U p) (sym u.2.0) u.1)
    by M s false e f = absurd (not_failing false [] f.1)

-- the list of the names is read, and they are set
abbrev NamedSo : Text → Completion → Tree Own → Tree Own → Path → Type 0
NamedSo names c T V p = (xs : List Text) × (list_of names ≡ Ok xs) × KeptSo xs c T V p

named_through : (names : Text) (c : Completion) (T V : Tree Own) (p : Path) → Does (or_fails fault_message (list_of names) (λ xs. keeps xs c (done marked))) T p V (Completed marked) → NamedSo names c T V p
named_through names c T V p d = by (list_of names) refl d
  where
    by : (r : Result (List Text) ListFault) → list_of names ≡ r → Does (or_fails fault_message r (λ xs. keeps xs c (done marked))) T p V (Completed marked) → NamedSo names c T V p
    by (Ok xs) e f = (xs, e, kept_through xs c T V p f)
    by (Err g) e f = absurd (not_failing (fits (fault_message g)) (fault_message g) f.1)

module _ {S : Type 0} {ways : Ways S} (style : Integers) where
  kept_comes : {T U V : Tree Own} {o z : S} {p : Path} {r : Ending} (names : List Text) (c : Completion) (k : Program) → KeptSo names c T U p → Proceeds ways (language style) U o p k V z r →
      Proceeds ways (language style) T o p (keeps names c k) V z r
  kept_comes [] c k s t = at_start s t
  kept_comes (a ∷ []) c k s t = set_comes style a c.text k s t
  kept_comes (a ∷ b ∷ rest) c k s t = set_comes style a c.text (grown (options_text c) (λ text. sets b text k)) s.1 (grows (options_text c) (λ text. sets b text k) s.2 (set_comes style b (options_text c) k s.3 t))

  pub named_comes : {T U V : Tree Own} {o z : S} {p : Path} {r : Ending} (names : Text) (c : Completion) (k : Program) →
      ((k : Program) (W : Tree Own) (e : Reply) → Does k U p W e → Does (or_fails fault_message (list_of names) (λ xs. keeps xs c k)) T p W e) →
      Proceeds ways (language style) U o p k V z r → Proceeds ways (language style) T o p (or_fails fault_message (list_of names) (λ xs. keeps xs c k)) V z r
  named_comes {T} {U} {p = p} names c k steps t =
      let s = named_through names c T U p (steps (done marked) U (Completed marked) (refl, refl)) in reads_on fault_message (λ xs. keeps xs c k) s.1 (kept_comes s.0 c k s.2 t)

  -- ## The words of a `try`, and its last script

  pub try_begins : {T V : Tree Own} {o z : S} {p : Path} {r : Ending} (args words : List Text) (body : Text) (t : Tried) → args ≡ body ∷ words → tried_of style words ≡ Ok t →
      Proceeds ways (language style) T o p (finishes body t.handlers t.last) V z r → Proceeds ways (language style) T o p (try_script style args) V z r
  try_begins args words body t is read run = at_prog (ap (try_script style) is) (reads_on itself (λ (x : Tried). finishes body x.handlers x.last) read run)

  pub try_refused : {T : Tree Own} {o : S} {p : Path} (args words : List Text) (body : Text) (e : Reply) → args ≡ body ∷ words → IsFailure itself (tried_of style words) e →
      Proceeds ways (language style) T o p (try_script style args) T o (Some e)
  try_refused args words body e is h = at_prog (ap (try_script style) is) (read_fails itself (tried_of style words) (λ (x : Tried). finishes body x.handlers x.last) e h)

  pub finish_none : {T V : Tree Own} {o z : S} {p : Path} {r : Ending} (body : Text) (handlers : List Handler) (last : Option Text) → last ≡ None →
      Proceeds ways (language style) T o p (handled body handlers) V z r → Proceeds ways (language style) T o p (finishes body handlers last) V z r
  finish_none body handlers last none t = at_prog (ap (finishes body handlers) none) (goes_done {i = Handled body handlers} t)

  pub finish_passes : {T U : Tree Own} {o u : S} {p : Path} {r : Ending} (body : Text) (handlers : List Handler) (last : Option Text) → IsQuitting r →
      Proceeds ways (language style) T o p (handled body handlers) U u r → Proceeds ways (language style) T o p (finishes body handlers last) U u r
  finish_passes body handlers None q t = passed q t
  finish_passes body handlers (Some s) q t = passed q t

  pub finish_stays : {T U V : Tree Own} {o u z : S} {p : Path} (body : Text) (handlers : List Handler) (last : Option Text) (s : Text) (c : Completion) (e : Ending) → last ≡ Some s → Stays e →
      Proceeds ways (language style) T o p (handled body handlers) U u (Some (Completed c)) → Proceeds ways (language style) U u p (script s) V z e → Proceeds ways (language style) T o p (finishes body handlers last) V z e
  finish_stays body handlers last s c e some h t r = at_prog (ap (finishes body handlers) some) (goes_on {i = Handled body handlers} t (Steps.goes_stays style {i = Script s} (λ text. done c) e h r))

  pub finish_goes : {T U V W : Tree Own} {o u z w : S} {p : Path} {e : Ending} (body : Text) (handlers : List Handler) (last : Option Text) (s : Text) (c d : Completion) (text : Text) → last ≡ Some s → d.code ≡ pos 0 → d.text ≡ text →
      Proceeds ways (language style) T o p (handled body handlers) U u (Some (Completed c)) → Proceeds ways (language style) U u p (script s) V z (Some (Completed d)) → Proceeds ways (language style) V z p (done c) W w e →
      Proceeds ways (language style) T o p (finishes body handlers last) W w e
  finish_goes body handlers last s c d text some a b t r f = at_prog (ap (finishes body handlers) some) (goes_on {i = Handled body handlers} t (Steps.goes_text style {i = Script s} (λ x. done c) d text a b r f))
