-- What clap's contracts say of the command line.
use Rattle.std.proofs.Common.{◌≡◌, ◌∙◌, ap, sym, refl, inl, inr, ℕ, true, List, map, Option, Some, None, Result, Ok, Err, unwrap_or, option_map, subst}
use Rattle.std.specs.Prelude.{IfOk, IfErr}
use Rattle.std.specs.Borrow.{Bor}
use Rattle.clap.specs.Words.{App, Text, is_simple, is_simple_and_free, HasMatchesOf, matches_of, fault_of, FailsBy, HasKind, IsAmong, kind_of, rows_of, found_of}
use Rattle.clap.specs.declared.error.Error.{Error}
use Rattle.clap.specs.declared.parser.matches.ArgMatches.{ArgMatches}
use Rattle.clap.proofs.OnLiterals.{clap_on_literals}
use Rattle.tcl_shell.specs.CommandLine.{command, styles, IsParsed, IsMisparsed}

is_plain : (names : Bor (List (Bor (List ℕ)))) → is_simple (command names) ≡ true
unfolding clap_on_literals
is_plain names = refl

is_free : (names : Bor (List (Bor (List ℕ)))) → is_simple_and_free (command names) ≡ true
unfolding clap_on_literals
is_free names = refl

pub parsed_so : (words : List Text) (names : Bor (List (Bor (List ℕ)))) (a : App) (r : Result ArgMatches Error) → map (λ name. name.now) names.now ≡ styles → a ≡ command names → IfOk r (HasMatchesOf a words)
    → (is_simple_and_free a ≡ true → FailsBy (fault_of a words) r) → IfOk r (λ m. IsParsed words (rows_of (found_of m)))
parsed_so words names a (Ok m) st e h k =
    (names, st, (h (ap is_simple e ∙ is_plain names)).0 ∙ ap (λ (x : App). matches_of x words) e, sym (ap (λ (x : App). fault_of x words) e) ∙ k (ap is_simple_and_free e ∙ is_free names))
parsed_so words names a (Err x) st e h k = tt

misparsed_by : (words : List Text) (names : Bor (List (Bor (List ℕ)))) (a : App) (x : Error) → map (λ name. name.now) names.now ≡ styles → a ≡ command names → HasKind (fault_of a words) x → IsMisparsed words x
misparsed_by words names a x st e (inl memory) = inl memory
misparsed_by words names a x st e (inr among) = inr (names, st, subst (λ (b : App). IsAmong (kind_of x) (fault_of b words)) e among)

pub misparsed_so : (words : List Text) (names : Bor (List (Bor (List ℕ)))) (a : App) (r : Result ArgMatches Error) → map (λ name. name.now) names.now ≡ styles → a ≡ command names
    → (is_simple_and_free a ≡ true → FailsBy (fault_of a words) r) → IfErr r (IsMisparsed words)
misparsed_so words names a (Ok m) st e k = tt
misparsed_so words names a (Err x) st e k = misparsed_by words names a x st e (k (ap is_simple_and_free e ∙ is_free names))

pub file_so : (o : Option (Bor (List ℕ))) (d : Bor (List ℕ)) (file : Bor (List ℕ)) (t : Option Text) → file ≡ unwrap_or o d → option_map (λ s. s.now) o ≡ t → file.now ≡ unwrap_or t d.now
file_so None d file t e f = ap (λ (x : Bor (List ℕ)). x.now) e ∙ ap (λ (x : Option Text). unwrap_or x d.now) f
file_so (Some s) d file t e f = ap (λ (x : Bor (List ℕ)). x.now) e ∙ ap (λ (x : Option Text). unwrap_or x d.now) f
