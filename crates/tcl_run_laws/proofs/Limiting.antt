-- Who sets limits of steps in the language: what the commands keep to, as demands that hold all through their programs.
use Rattle.std.proofs.Common.{◌≡◌, refl, sym, ◌∙◌, ap, Bool, true, false, not, [], ◌∷◌}
use Rattle.tcl_core.specs.Entries.{Entry}
use Rattle.tcl_core.specs.Entries.Entry.{Expose, SetCountLimit}
use Rattle.tcl_core.specs.Paths.{Path}
use Rattle.tcl_core.specs.Programs.Act.{Limit}
use Rattle.tcl_core.specs.Programs.Prog.{act, call, done, exit, go, inside, wait}
use Rattle.tcl_core.specs.Tables.{exposes}
use Rattle.tcl_run_laws.specs.Language.{leaves_steps}
use Rattle.tcl_run_laws.specs.Limits.{AsksBelow, KeepTops, LimitsBelow, sets_steps}
use Rattle.tcl_language.proofs.Commands as commands
use Rattle.tcl_language.proofs.Everywhere.{Demands, Everywhere, Goes}
use Rattle.tcl_language.proofs.Facts.{Facts, Served, any_named, any_own, is_open}
use Rattle.tcl_language.specs.Instructions.{Instr, Program}
use Rattle.tcl_language.specs.Instructions.Instr.{Serve}
use Rattle.tcl_language.specs.Naming.{exposed_as}
use Rattle.tcl_language.specs.Table.{program, serve}
use Rattle.tcl_run.specs.Language.{language}
use Rattle.tcl_text.specs.declared.integer.Integers.{Integers}

no_true : {A : Type 0} → false ≡ true → A
no_true e = absurd (bad e)
  where
    bad : false ≡ true → Prim.⊥
    bad f = cc

-- what every interpreter may ask for sets no limit, and what is asked about hidden commands sets none either
sets_none : (entry : Entry) → is_open entry ≡ true → sets_steps entry ≡ false
sets_none (SetCountLimit limit) e = no_true e
sets_none _ e = refl

of_hidden : (entry : Entry) → exposes entry ≡ true → sets_steps entry ≡ false
of_hidden (SetCountLimit limit) e = no_true e
of_hidden _ e = refl

asks_below : (down : Path) (entry : Entry) → sets_steps entry ≡ false → AsksBelow down entry
asks_below [] entry e = e
asks_below (name ∷ down) entry e = tt

module _ (may : Bool) where
  abbrev demands : Demands
  demands = record {
    stands = λ n. Unit {0};
    own = λ own. Unit {0};
    steps = may ≡ true;
    depth = Unit {0};
    hidden = Unit {0};
    serves = λ entry. not (sets_steps entry) ≡ true;
    calls = λ up down entry. AsksBelow down entry;
  }

  -- the entry for a limit is served only where that may be set
  served : (entry : Entry) → (sets_steps entry ≡ true → may ≡ true) → Served demands entry
  served (SetCountLimit limit) f = f refl
  served (Expose hidden name) f = λ own o. any_named demands (λ own. tt) (exposed_as own hidden name)
  served _ f = tt

  facts : Facts demands
  facts = record {
    owns = any_own demands (λ own. tt);
    own = λ n s. tt;
    made = λ n safe s. tt;
    serves = λ entry e. ap not (sets_none entry e);
    calls = λ up down entry e. asks_below down entry (sets_none entry e);
    trusted = λ n s e. record { hidden = λ entry f. ap not (of_hidden entry f); depth = λ limit. refl; below = λ name path entry. tt };
    served = λ entry e. served entry (λ f. no_true (sym (ap not f) ∙ e));
    host = λ own x b o e h request. refl;
    hidden = λ h request. refl;
  }

  goes : (i : Instr) → leaves_steps i ≡ true → Goes demands i
  goes (Serve entry) e = e
  goes _ e = tt

  leaves : (i : Instr) → Goes demands i → leaves_steps i ≡ true
  leaves (Serve entry) g = g
  leaves _ g = refl

  limits_below : (x : Program) → Everywhere demands x → LimitsBelow leaves_steps may x
  limits_below (done c) e = tt
  limits_below (exit n) e = tt
  limits_below (act (Limit limit) k) e = (e.0, λ T. limits_below (k T) (e.1 T (λ n f. tt)))
  limits_below (act d k) e = λ T. limits_below (k T) (e.1 T (λ n f. tt))
  limits_below (go i k) e = (leaves i e.0, λ c. limits_below (k c) (e.1 c))
  limits_below (inside b i k) e = (leaves i e.0, λ c. limits_below (k c) (e.2 c))
  limits_below (call h down i lost k) e = (e.0, λ s. limits_below (k s) (e.1 s))
  limits_below (wait s k) e = absurd e

  by_entry : (style : Integers) (entry : Entry) → (sets_steps entry ≡ true → may ≡ true) → LimitsBelow leaves_steps may (serve style entry)
  by_entry style entry f = limits_below (serve style entry) (commands.serve demands facts style entry (served entry f))

  by_instruction : (style : Integers) (i : Instr) → leaves_steps i ≡ true → LimitsBelow leaves_steps may (program style i)
  by_instruction style i e = limits_below (program style i) (commands.program demands facts style i (goes i e))

-- The language is such a table, in every style.
pub language_keeps_tops : (style : Integers) → KeepTops leaves_steps (language style)
language_keeps_tops style = record {
  programs = λ i e. by_instruction false style i e;
  entries = λ i e. by_entry false style i (λ f. no_true (sym e ∙ f));
  limiting = λ i. by_entry true style i (λ f. refl);
}
