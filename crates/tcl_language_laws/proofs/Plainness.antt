-- The two disciplines: no request of the host, and no limit.
use Rattle.std.proofs.Common.{◌≡◌, refl, sym, ◌∙◌, subst, Bool, true, false, not, ◌&&◌, ◌||◌, cond, [], ◌∷◌, ◌++◌, Option, Some, None, is_some, if◌then◌else◌}
use Rattle.std.specs.Str.{bytes_eq}
use Rattle.std.specs.Map.{lookup, remove_entry}
use Rattle.indexmap.specs.IndexMap.{insert_entry}
use Rattle.tcl_core.specs.Paths.{Text, Place}
use Rattle.tcl_core.specs.Entries.{Entry}
use Rattle.tcl_core.specs.Entries.Entry.{Expose, InvokeHidden, SetCountLimit, SetDepthLimit}
use Rattle.tcl_core.specs.Tables.{Discipline, Modest, exposes, sets_limit, hostless, unlimiting}
use Rattle.tcl_frames.specs.Names.{has_colons}
use Rattle.tcl_language.proofs.Commands as commands
use Rattle.tcl_language.proofs.Everywhere.{Goes}
use Rattle.tcl_language.proofs.Facts.{Facts, Names, OwnFacts, Served, any_named, any_own}
use Rattle.tcl_language.specs.Naming as naming
use Rattle.tcl_language.specs.Naming.{Named, by_name, command_name, named, exposed_as}
use Rattle.tcl_language.specs.Instructions.{Instr}
use Rattle.tcl_language.specs.Instructions.Instr.{Hidden, Invoke, Serve}
use Rattle.tcl_language.specs.Safety.{is_host, is_plain, are_plain, plain, is_quiet, is_modest}
use Rattle.tcl_language.specs.Table.{program, serve}
use Rattle.tcl_language_laws.proofs.Disciplines.{demands, modest}
use Rattle.tcl_language_laws.specs.Safety.{KeepsLimits, KeepsQuiet}
use Rattle.tcl_text.specs.declared.integer.Integers.{Integers}
use Rattle.tcl_tree.specs.Changes.{is_child}
use Rattle.tcl_tree.specs.Own.{Own, CommandMap, command_in, hidden_in, new_own}
use Rattle.tcl_interpreter.specs.declared.builtin.Builtin.{Builtin}
use Rattle.tcl_interpreter.specs.declared.command.Command.{Command}
use Rattle.tcl_interpreter.specs.declared.command.Command.TheVariants as command

abbrev pick : Bool → Type 0 → Type 0
pick true A = A
pick false A = Unit {0}

from_false : {A : Type 0} → false ≡ true → A
from_false {A} e = subst (λ b. pick (not b) A → pick b A) e (λ x. tt) tt

both : (a b : Bool) → a ≡ true → b ≡ true → (a && b) ≡ true
both true b f g = g
both false b f g = f

left_of : (a b : Bool) → (a && b) ≡ true → a ≡ true
left_of true b e = refl
left_of false b e = e

right_of : (a b : Bool) → (a && b) ≡ true → b ≡ true
right_of true b e = e
right_of false b e = from_false e

or_true : (a b : Bool) → b ≡ true → (a || b) ≡ true
or_true true b e = refl
or_true false b e = e

-- an interpreter isn't safe and trusted at once
both_not : {A : Type 0} (b : Bool) → b ≡ true → b ≡ false → A
both_not b e f = from_false (sym f ∙ e)

not_both : {A : Type 0} (b : Bool) → b ≡ true → not b ≡ true → A
not_both b e f = from_false (subst (λ z. not z ≡ true) e f)

-- ## Maps of commands

snoc_plain : (cs : CommandMap) (x : Text) (c : Command) → are_plain cs ≡ true → is_plain c ≡ true → are_plain (cs ++ (x, c) ∷ []) ≡ true
snoc_plain [] x c f g = both (is_plain c) true g refl
snoc_plain (e ∷ es) x c f g = both (is_plain e.1) (are_plain (es ++ (x, c) ∷ [])) (left_of (is_plain e.1) (are_plain es) f) (snoc_plain es x c (right_of (is_plain e.1) (are_plain es) f) g)

if_plain : (b : Bool) (xs ys : CommandMap) → are_plain xs ≡ true → are_plain ys ≡ true → are_plain (if b then xs else ys) ≡ true
if_plain true xs ys f g = f
if_plain false xs ys f g = g

cond_map : (b : Bool) (xs ys : CommandMap) → are_plain xs ≡ true → are_plain ys ≡ true → are_plain (cond b xs ys) ≡ true
cond_map true xs ys f g = f
cond_map false xs ys f g = g

insert_plain : (cs : CommandMap) (x : Text) (c : Command) → are_plain cs ≡ true → is_plain c ≡ true → are_plain (insert_entry bytes_eq cs x c) ≡ true
insert_plain [] x c f g = both (is_plain c) true g refl
insert_plain (e ∷ es) x c f g = if_plain (bytes_eq x e.0) ((e.0, c) ∷ es) (e ∷ insert_entry bytes_eq es x c)
    (both (is_plain c) (are_plain es) g (right_of (is_plain e.1) (are_plain es) f))
    (both (is_plain e.1) (are_plain (insert_entry bytes_eq es x c)) (left_of (is_plain e.1) (are_plain es) f) (insert_plain es x c (right_of (is_plain e.1) (are_plain es) f) g))

remove_plain : (t : Text → Bool) (cs : CommandMap) → are_plain cs ≡ true → are_plain (remove_entry t cs) ≡ true
remove_plain t [] f = refl
remove_plain t (e ∷ es) f = cond_map (t e.0) es (e ∷ remove_entry t es) (right_of (is_plain e.1) (are_plain es) f)
    (both (is_plain e.1) (are_plain (remove_entry t es)) (left_of (is_plain e.1) (are_plain es) f) (remove_plain t es (right_of (is_plain e.1) (are_plain es) f)))

abbrev Found : Option Command → Type 0
Found None = Unit {0}
Found (Some c) = is_plain c ≡ true

if_found : (b : Bool) (c : Command) (o : Option Command) → is_plain c ≡ true → Found o → Found (cond b (Some c) o)
if_found true c o f g = f
if_found false c o f g = g

found_plain : (t : Text → Bool) (cs : CommandMap) → are_plain cs ≡ true → Found (lookup t cs)
found_plain t [] f = tt
found_plain t (e ∷ es) f = if_found (t e.0) e.1 (lookup t es) (left_of (is_plain e.1) (are_plain es) f) (found_plain t es (right_of (is_plain e.1) (are_plain es) f))

-- ## Naming

abbrev Q : Discipline Own Instr
Q = hostless plain is_quiet

-- what is named so keeps an own part plain
abbrev Plainly : Named → Type 0
Plainly r = Names (demands Q true) r

name_plain : (o : Option Text) (x : Text) (f : Text → Named) → ((t : Text) → Plainly (f t)) → Plainly (by_name o x f)
name_plain None x f g = tt
name_plain (Some t) x f g = g t

cond_plain : (b : Bool) (r s : Named) → Plainly r → Plainly s → Plainly (cond b r s)
cond_plain true r s f g = f
cond_plain false r s f g = g

named_plain : (own : Own) (x : Text) (c : Command) → plain own ≡ true → is_plain c ≡ true → Plainly (named own x c)
named_plain own x c p q = name_plain (command_name x) x _ (λ t. cond_plain (is_child (command_in own t)) _ _ tt (insert_plain own.commands t c p q))

clears_plain : (own : Own) (t x : Text) (o : Option Command) → plain own ≡ true → Plainly (naming.clears own t x o)
clears_plain own t x None p = tt
clears_plain own t x (Some (command.Builtin b)) p = tt
clears_plain own t x (Some (command.Procedure b)) p = tt
clears_plain own t x (Some (command.Alias a)) p = remove_plain (bytes_eq t) own.commands p
clears_plain own t x (Some command.Child) p = tt

put_plain : (own : Own) (t h : Text) (c : Command) → plain own ≡ true → Plainly (naming.put_hidden own t h c)
put_plain own t h c p = cond_plain (has_colons h) _ _ tt (cond_plain (is_some (hidden_in own h)) _ _ tt (remove_plain (bytes_eq t) own.commands p))

hides_plain : (own : Own) (t x h : Text) (o : Option Command) → plain own ≡ true → Plainly (naming.hides own t x h o)
hides_plain own t x h None p = tt
hides_plain own t x h (Some command.Child) p = tt
hides_plain own t x h (Some (command.Builtin b)) p = put_plain own t h (command.Builtin b) p
hides_plain own t x h (Some (command.Procedure b)) p = put_plain own t h (command.Procedure b) p
hides_plain own t x h (Some (command.Alias a)) p = put_plain own t h (command.Alias a) p

removes_plain : (own : Own) (t x : Text) (o : Option Command) → plain own ≡ true → Plainly (naming.removes own t x o)
removes_plain own t x None p = tt
removes_plain own t x (Some c) p = cond_plain (is_child (Some c)) _ _ tt (remove_plain (bytes_eq t) own.commands p)

renames_plain : (own : Own) (t x y : Text) (o : Option Command) → plain own ≡ true → Found o → Plainly (naming.renames own t x y o)
renames_plain own t x y None p q = tt
renames_plain own t x y (Some c) p q = cond_plain (is_child (Some c)) _ _ tt (name_plain (command_name y) y _ (λ other. cond_plain (is_some (command_in own other)) _ _ tt
    (snoc_plain (remove_entry (bytes_eq t) own.commands) other c (remove_plain (bytes_eq t) own.commands p) q)))

host_asks : (b : Builtin) → not (is_host b) ≡ true → is_host b ≡ true → false ≡ true
host_asks b e h = not_both (is_host b) h e

quiet_own : OwnFacts (demands Q true)
quiet_own = record {
  chain = λ own c p. p;
  child = λ x own p. snoc_plain own.commands x command.Child p refl;
  dropped = λ x own p. remove_plain (bytes_eq x) own.commands p;
  procedure = λ own x b p. named_plain own x (command.Procedure b) p refl;
  alias = λ own x a p. named_plain own x (command.Alias a) p refl;
  cleared = λ own x p. name_plain (command_name x) x _ (λ t. clears_plain own t x (command_in own t) p);
  hiding = λ own x h p. name_plain (command_name x) x _ (λ t. hides_plain own t x h (command_in own t) p);
  removed = λ own x p. name_plain (command_name x) x _ (λ t. removes_plain own t x (command_in own t) p);
  renamed = λ own x y p. name_plain (command_name x) x _ (λ t. renames_plain own t x y (command_in own t) p (found_plain (bytes_eq t) own.commands p));
}

-- ## No request

quiet_served : (entry : Entry) → not (exposes entry) ≡ true → Served (demands Q true) entry
quiet_served (InvokeHidden b ws) e = e
quiet_served (Expose h x) e = from_false e
quiet_served (SetCountLimit l) e = refl
quiet_served (SetDepthLimit l) e = refl
quiet_served _ e = tt

quiet : Facts (demands Q true)
quiet = record {
  owns = quiet_own;
  own = λ n s. s.1;
  made = λ n safe s. subst (λ b. plain (new_own b) ≡ true) (sym (or_true safe n.safe s.0)) refl;
  serves = λ entry e. left_of (not (exposes entry)) (not (sets_limit entry)) e;
  calls = λ up down entry e. left_of (not (exposes entry)) (not (sets_limit entry)) e;
  trusted = λ n s e. both_not n.safe s.0 e;
  served = quiet_served;
  host = λ own x b p e h request. host_asks b (subst Found e (found_plain (bytes_eq x) own.commands p)) h;
  hidden = λ h request. h;
}

quiet_goes : (i : Instr) → is_quiet i ≡ true → Goes (demands Q true) i
quiet_goes (Invoke b ws) e = e
quiet_goes (Hidden b ws) e = e
quiet_goes (Serve entry) e = e
quiet_goes _ e = tt

quiet_fine : (i : Instr) → Goes (demands Q true) i → is_quiet i ≡ true
quiet_fine (Invoke b ws) g = g
quiet_fine (Hidden b ws) g = g
quiet_fine (Serve entry) g = g
quiet_fine _ g = refl

pub keeps_quiet : KeepsQuiet
keeps_quiet style = record {
  programs = λ i e. modest Q true quiet_fine (program style i) (commands.program (demands Q true) quiet style i (quiet_goes i e));
  entries = λ i e. modest Q true quiet_fine (serve style i) (commands.serve (demands Q true) quiet style i (quiet_served i e));
  limiting = λ i e. from_false e;
}

-- ## No limit

module _ (limited : Place → Bool) where
  abbrev M : Discipline Own Instr
  M = unlimiting is_modest limited

  module _ (l : Bool) where
    -- an entry for a limit is served only where limits may be set
    modest_served : (entry : Entry) → (sets_limit entry ≡ true → l ≡ true) → Served (demands M l) entry
    modest_served (InvokeHidden b ws) f = refl
    modest_served (Expose h x) f = λ own p. any_named (demands M l) (λ own. refl) (exposed_as own h x)
    modest_served (SetCountLimit limit) f = f refl
    modest_served (SetDepthLimit limit) f = f refl
    modest_served _ f = tt

    facts : Facts (demands M l)
    facts = record {
      owns = any_own (demands M l) (λ own. refl);
      own = λ n s. refl;
      made = λ n safe s. refl;
      serves = λ entry e. right_of (not (exposes entry)) (not (sets_limit entry)) e;
      calls = λ up down entry e. right_of (not (exposes entry)) (not (sets_limit entry)) e;
      trusted = λ n s e. both_not n.safe s.0 e;
      served = λ entry e. modest_served entry (λ f. not_both (sets_limit entry) f e);
      host = λ own x b p e h request. refl;
      hidden = λ h request. refl;
    }

    goes : (i : Instr) → is_modest i ≡ true → Goes (demands M l) i
    goes (Invoke b ws) e = e
    goes (Hidden b ws) e = e
    goes (Serve entry) e = e
    goes _ e = tt

    fine : (i : Instr) → Goes (demands M l) i → is_modest i ≡ true
    fine (Serve entry) g = g
    fine _ g = refl

    served : (style : Integers) (entry : Entry) → (sets_limit entry ≡ true → l ≡ true) → Modest M l (serve style entry)
    served style entry f = modest M l fine (serve style entry) (commands.serve (demands M l) facts style entry (modest_served entry f))

pub keeps_limits : KeepsLimits
keeps_limits style limited = record {
  programs = λ i e. modest (M limited) false (fine limited false) (program style i) (commands.program (demands (M limited) false) (facts limited false) style i (goes limited false i e));
  entries = λ i e. served limited false style i (λ f. not_both (sets_limit i) f e);
  limiting = λ i e. served limited true style i (λ f. refl);
}
