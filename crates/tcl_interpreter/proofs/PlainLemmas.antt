-- Lemmas on commands none of whose names has two colons side by side.
use Rattle.std.proofs.Common.{◌≡◌, Bool, not, true, false, cond, [], ◌∷◌, ◌++◌, Option, Some, None, refl, ◌∙◌, ap}
use Rattle.std.specs.Prelude.{◌&&◌, if◌then◌else◌, is_some, Result, Ok, Err, OnOk, OnErr}
use Rattle.std.specs.Str.{bytes_eq}
use Rattle.std.specs.Map.{lookup, remove_entry}
use Rattle.std.proofs.lemmas.Slice.Eq.{bytes_eq-Decides}
use Rattle.indexmap.specs.IndexMap.{insert_entry}
use Rattle.tcl_interpreter.specs.Names.{has_colons, is_command_name, have_plain_names}
use Rattle.tcl_interpreter.specs.Own.{CommandMap}
use Rattle.tcl_interpreter.specs.Paths.{Text}
use Rattle.tcl_interpreter.specs.declared.command.Command.{Command}

-- both of two tests, and each of them
pub both : (a b : Bool) → a ≡ true → b ≡ true → (a && b) ≡ true
both a b e f = ap (λ (x : Bool). x && b) e ∙ f

pub first_of : (a b : Bool) → (a && b) ≡ true → a ≡ true
first_of true b e = refl
first_of false b e = e

pub second_of : (a b : Bool) → (a && b) ≡ true → b ≡ true
second_of true b e = e
second_of false b e = absurd (cc)

-- one more at the end
pub plain_pushed : (es : CommandMap) (n : Text) (c : Command) → have_plain_names es ≡ true → is_command_name n ≡ true → have_plain_names (es ++ (n, c) ∷ []) ≡ true
plain_pushed [] n c e f = both (is_command_name n) true f refl
plain_pushed (x ∷ es) n c e f = both (is_command_name x.0) _ (first_of _ _ e) (plain_pushed es n c (second_of (is_command_name x.0) _ e) f)

-- a name stands for this command from now on
pub plain_given : (es : CommandMap) (n : Text) (c : Command) → have_plain_names es ≡ true → is_command_name n ≡ true → have_plain_names (insert_entry bytes_eq es n c) ≡ true
plain_given [] n c e f = both (is_command_name n) true f refl
plain_given (x ∷ es) n c e f = by (bytes_eq n x.0) (plain_given es n c (second_of (is_command_name x.0) _ e) f)
  where
    by : (b : Bool) → have_plain_names (insert_entry bytes_eq es n c) ≡ true → have_plain_names (if b then (x.0, c) ∷ es else x ∷ insert_entry bytes_eq es n c) ≡ true
    by true rest = e
    by false rest = both (is_command_name x.0) _ (first_of _ _ e) rest

-- one less
pub plain_removed : (test : Text → Bool) (es : CommandMap) → have_plain_names es ≡ true → have_plain_names (remove_entry test es) ≡ true
plain_removed test [] e = refl
plain_removed test (x ∷ es) e = by (test x.0) (plain_removed test es (second_of (is_command_name x.0) _ e))
  where
    by : (b : Bool) → have_plain_names (remove_entry test es) ≡ true → have_plain_names (cond b es (x ∷ remove_entry test es)) ≡ true
    by true rest = second_of (is_command_name x.0) _ e
    by false rest = both (is_command_name x.0) _ (first_of _ _ e) rest

-- a name that is found among them
name_found : (es : CommandMap) (n : Text) (c : Command) → have_plain_names es ≡ true → lookup (bytes_eq n) es ≡ Some c → is_command_name n ≡ true
name_found [] n c e f = absurd (cc)
name_found (x ∷ es) n c e f = by (bytes_eq n x.0) refl f (λ g. name_found es n c (second_of (is_command_name x.0) _ e) g)
  where
    by : (b : Bool) → bytes_eq n x.0 ≡ b → cond b (Some x.1) (lookup (bytes_eq n) es) ≡ Some c → (lookup (bytes_eq n) es ≡ Some c → is_command_name n ≡ true) → is_command_name n ≡ true
    by true same g rest = ap is_command_name ((bytes_eq-Decides n x.0).0 same) ∙ first_of _ _ e
    by false other g rest = rest g

pub plain_found : (es : CommandMap) (n : Text) (c : Command) → have_plain_names es ≡ true → lookup (bytes_eq n) es ≡ Some c → has_colons n ≡ false
plain_found es n c e f = by (has_colons n) (name_found es n c e f)
  where
    by : (b : Bool) → not b ≡ true → b ≡ false
    by true g = absurd (cc)
    by false g = refl

-- ## Commands that were to change: fs is what becomes of es, by what a call answers

-- a name was to stand for a command
pub given_plain : {T F : Type 0} (r : Result T F) (es fs : CommandMap) (n : Text) (c : Command) → OnOk r (fs ≡ insert_entry bytes_eq es n c) → OnErr r (fs ≡ es) → have_plain_names es ≡ true → is_command_name n ≡ true → have_plain_names fs ≡ true
given_plain (Ok x) es fs n c done kept e f = ap have_plain_names done ∙ plain_given es n c e f
given_plain (Err x) es fs n c done kept e f = ap have_plain_names kept ∙ e

-- a command that there is, o, was to come last under a name, behind what stays
pub pushed_plain : {T F : Type 0} (r : Result T F) (o : Option Command) (stays es fs : CommandMap) (n : Text) → is_some o ≡ true → OnOk r ((c : Command) → o ≡ Some c → fs ≡ stays ++ (n, c) ∷ []) → OnErr r (fs ≡ es)
    → have_plain_names stays ≡ true → have_plain_names es ≡ true → is_command_name n ≡ true → have_plain_names fs ≡ true
pushed_plain r None stays es fs n there done kept d e f = absurd (cc)
pushed_plain (Ok x) (Some c) stays es fs n there done kept d e f = ap have_plain_names (done c refl) ∙ plain_pushed stays n c d f
pushed_plain (Err x) (Some c) stays es fs n there done kept d e f = ap have_plain_names kept ∙ e

-- a command that there is, o, was to be taken away
pub taken_plain : {T F : Type 0} (r : Result T F) (o : Option Command) (test : Text → Bool) (es fs : CommandMap) → is_some o ≡ true → OnOk r ((c : Command) → o ≡ Some c → fs ≡ remove_entry test es) → OnErr r (fs ≡ es) → have_plain_names es ≡ true → have_plain_names fs ≡ true
taken_plain r None test es fs there done kept e = absurd (cc)
taken_plain (Ok x) (Some c) test es fs there done kept e = ap have_plain_names (done c refl) ∙ plain_removed test es e
taken_plain (Err x) (Some c) test es fs there done kept e = ap have_plain_names kept ∙ e
