-- How commands are named is what the table makes of them.
use Rattle.std.proofs.Common.{◌≡◌, Bool, true, false, cond, [], ◌∷◌, ◌++◌, Option, Some, None, refl, sym, ◌∙◌, ap}
use Rattle.std.specs.Prelude.{Ok, Err, is_some, not, ◌&&◌, ◌||◌, ◌==◌}
use Rattle.std.specs.Map.{remove_entry}
use Rattle.std.specs.Str.{bytes_eq}
use Rattle.tcl_core.specs.Paths.{Text}
use Rattle.tcl_language.specs.Interpreters.{refusal_text}
use Rattle.tcl_language.specs.Naming as language
use Rattle.tcl_language.specs.Naming.{command_name, of_global, without_colons, with_word}
use Rattle.tcl_language.specs.Names.{is_name}
use Rattle.tcl_tree.specs.Changes as changes
use Rattle.tcl_tree.specs.Changes.{is_child, is_alias, is_colon, with_command, without_command}
use Rattle.tcl_tree.specs.Naming as tree
use Rattle.tcl_tree.specs.Own.{Own, command_in, hidden_in}
use Rattle.tcl_interpreter.specs.declared.command.Command.{Command}
use Rattle.tcl_interpreter.specs.declared.command.Command.TheVariants as command
use Rattle.tcl_interpreter.specs.declared.refusal.TreeError.{TreeError}
use Rattle.tcl_interpreter.specs.declared.refusal.TreeError.TheVariants as refusal
use Rattle.tcl_frames.specs.Names.{colons_after, has_colons, after_colons}
use Rattle.tcl_calls.specs.Naming.{hiding_text}

-- ## Colons

colons_same : (before : Bool) (x : Text) → colons_after before x ≡ ((before && is_colon x) || changes.has_colons x)
unfolding colons_after
colons_same true [] = refl
colons_same false [] = refl
colons_same before (b ∷ rest) = ap (λ (d : Bool). (before && (b == 58)) || d) (colons_same (b == 58) rest)

pub has_same : (x : Text) → has_colons x ≡ changes.has_colons x
has_same x = colons_same false x

pub is_name_same : (x : Text) → is_name x ≡ changes.is_name x
is_name_same [] = refl
is_name_same (c ∷ cs) = ap not (has_same (c ∷ cs))

no_colons : (n plain : Text) → without_colons n ≡ Some plain → has_colons plain ≡ false
no_colons n plain e = by (has_colons n) refl e
  where
    by : (b : Bool) → has_colons n ≡ b → cond b None (Some n) ≡ Some plain → has_colons plain ≡ false
    by true f g = let x : None ≡ Some plain = g in cc
    by false f g = let same : n ≡ plain = cc in ap has_colons (sym same) ∙ f

kept_plain : (x plain : Text) → command_name x ≡ Some plain → has_colons plain ≡ false
kept_plain x plain e = by (after_colons x) e
  where
    by : (o : Option Text) → of_global x o ≡ Some plain → has_colons plain ≡ false
    by None f = no_colons x plain f
    by (Some rest) f = no_colons rest plain f

is_plain : (x plain : Text) → command_name x ≡ Some plain → changes.is_command_name plain ≡ true
is_plain x plain e = ap not (sym (has_same plain) ∙ kept_plain x plain e)

-- ## What the table makes of a name, with the word that is wrong

kept_child : (b : Bool) (x : Text) (k : tree.Named) → cond b (Err (refusal.Exists, x)) (with_word x k) ≡ with_word x (cond b (Err refusal.Exists) k)
kept_child true x k = refl
kept_child false x k = refl

pub named_is : (own : Own) (x plain : Text) (c : Command) → command_name x ≡ Some plain → language.named own x c ≡ with_word x (tree.named own plain c)
named_is own x plain c e =
    ap (λ (o : Option Text). language.by_name o x (λ p. language.keeps_child (command_in own p) x (Ok (with_command p c own)))) e
    ∙ kept_child (is_child (command_in own plain)) x (Ok (with_command plain c own))
    ∙ ap (λ (b : Bool). with_word x (cond b (tree.keeps_child (command_in own plain) (Ok (with_command plain c own))) (Err refusal.BadName))) (sym (is_plain x plain e))

clears_is : (own : Own) (plain x : Text) (o : Option Command) → language.clears own plain x o ≡ with_word x (cond (is_alias o) (Ok (without_command plain own)) (Err refusal.NoCommand))
clears_is own plain x None = refl
clears_is own plain x (Some (command.Alias a)) = refl
clears_is own plain x (Some (command.Builtin b)) = refl
clears_is own plain x (Some (command.Procedure p)) = refl
clears_is own plain x (Some command.Child) = refl

pub cleared_is : (own : Own) (x plain : Text) → command_name x ≡ Some plain → language.cleared own x ≡ with_word x (tree.cleared own plain)
cleared_is own x plain e = ap (λ (o : Option Text). language.by_name o x (λ p. language.clears own p x (command_in own p))) e ∙ clears_is own plain x (command_in own plain)

-- ## Hiding and exposing

-- the word that is wrong where a command isn't hidden: its name where there is none, and else the name under which it was to be hidden
abbrev pub with_words : Text → Text → tree.Named → language.Named
with_words x h (Ok own) = Ok own
with_words x h (Err refusal.NoCommand) = Err (refusal.NoCommand, x)
with_words x h (Err e) = Err (e, h)

abbrev pub hiding_word : Text → Text → TreeError → Text
hiding_word x h refusal.NoCommand = x
hiding_word x h e = h

pub words_err : (x h : Text) (e : TreeError) → with_words x h (Err e) ≡ Err (e, hiding_word x h e)
words_err x h refusal.NoCommand = refl
words_err x h e = refl

pub hiding_same : (x h : Text) (e : TreeError) → hiding_text e x h ≡ refusal_text e (hiding_word x h e)
hiding_same x h refusal.NoCommand = refl
hiding_same x h e = refl

put_is : (x h : Text) (a b : Bool) (own : Own) → b ≡ a → (d : Bool) →
    cond a (Err (refusal.BadName, h)) (cond d (Err (refusal.Exists, h)) (Ok own)) ≡ with_words x h (cond (not b) (cond d (Err refusal.Exists) (Ok own)) (Err refusal.BadName))
put_is x h true true own e d = refl
put_is x h true false own e d = let z : false ≡ true = e in cc
put_is x h false true own e d = let z : true ≡ false = e in cc
put_is x h false false own e true = refl
put_is x h false false own e false = refl

hides_is : (own : Own) (plain x h : Text) (o : Option Command) → is_child o ≡ false → language.hides own plain x h o ≡ with_words x h (tree.hidden_so own plain h o)
hides_is own plain x h None e = refl
hides_is own plain x h (Some command.Child) e = let z : true ≡ false = e in cc
hides_is own plain x h (Some (command.Builtin b)) e = put_is x h (has_colons h) (changes.has_colons h) _ (sym (has_same h)) (is_some (hidden_in own h))
hides_is own plain x h (Some (command.Procedure p)) e = put_is x h (has_colons h) (changes.has_colons h) _ (sym (has_same h)) (is_some (hidden_in own h))
hides_is own plain x h (Some (command.Alias a)) e = put_is x h (has_colons h) (changes.has_colons h) _ (sym (has_same h)) (is_some (hidden_in own h))

pub hidden_is : (own : Own) (x plain h : Text) → command_name x ≡ Some plain → is_child (command_in own plain) ≡ false → language.hidden_as own x h ≡ with_words x h (tree.hidden_under own plain h)
hidden_is own x plain h e f = ap (λ (o : Option Text). language.by_name o x (λ p. language.hides own p x h (command_in own p))) e ∙ hides_is own plain x h (command_in own plain) f

-- a child isn't hidden
pub child_stays : (own : Own) (x plain h : Text) → command_name x ≡ Some plain → is_child (command_in own plain) ≡ true → language.hidden_as own x h ≡ Err (refusal.Exists, x)
child_stays own x plain h e f = ap (λ (o : Option Text). language.by_name o x (λ p. language.hides own p x h (command_in own p))) e ∙ by (command_in own plain) f
  where
    by : (o : Option Command) → is_child o ≡ true → language.hides own plain x h o ≡ Err (refusal.Exists, x)
    by None g = let z : false ≡ true = g in cc
    by (Some command.Child) g = refl
    by (Some (command.Builtin b)) g = let z : false ≡ true = g in cc
    by (Some (command.Procedure p)) g = let z : false ≡ true = g in cc
    by (Some (command.Alias a)) g = let z : false ≡ true = g in cc

free_is : (b : Bool) (x : Text) (own : Own) → cond b (Err (refusal.Exists, x)) (Ok own) ≡ with_word x (cond b (Err refusal.Exists) (Ok own))
free_is true x own = refl
free_is false x own = refl

exposes_is : (own : Own) (h x plain : Text) (o : Option Command) → is_some o ≡ true → command_name x ≡ Some plain → language.exposes own h x o ≡ with_word x (tree.exposed_so own h plain o)
exposes_is own h x plain None f e = let z : false ≡ true = f in cc
exposes_is own h x plain (Some c) f e =
    ap (λ (o : Option Text). language.by_name o x (λ p. cond (is_some (command_in own p)) (Err (refusal.Exists, x)) (Ok (record own { commands = own.commands ++ (p, c) ∷ []; hidden = remove_entry (bytes_eq h) own.hidden })))) e
    ∙ free_is (is_some (command_in own plain)) x _
    ∙ ap (λ (b : Bool). with_word x (cond b (tree.free (command_in own plain) (Ok (record own { commands = own.commands ++ (plain, c) ∷ []; hidden = remove_entry (bytes_eq h) own.hidden }))) (Err refusal.BadName))) (sym (is_plain x plain e))

pub exposed_is : (own : Own) (h x plain : Text) → is_some (hidden_in own h) ≡ true → command_name x ≡ Some plain → language.exposed_as own h x ≡ with_word x (tree.exposed_under own h plain)
exposed_is own h x plain f e = exposes_is own h x plain (hidden_in own h) f e

-- what isn't hidden isn't exposed
pub unhidden_stays : (own : Own) (h x : Text) → is_some (hidden_in own h) ≡ false → language.exposed_as own h x ≡ Err (refusal.NoHidden, h)
unhidden_stays own h x f = by (hidden_in own h) f
  where
    by : (o : Option Command) → is_some o ≡ false → language.exposes own h x o ≡ Err (refusal.NoHidden, h)
    by None g = refl
    by (Some c) g = let z : true ≡ false = g in cc

-- ## Names that can't be given

pub bad_named : (own : Own) (x : Text) (c : Command) → command_name x ≡ None → language.named own x c ≡ Err (refusal.BadName, x)
bad_named own x c e = ap (λ (o : Option Text). language.by_name o x (λ p. language.keeps_child (command_in own p) x (Ok (with_command p c own)))) e

pub bad_cleared : (own : Own) (x : Text) → command_name x ≡ None → language.cleared own x ≡ Err (refusal.BadName, x)
bad_cleared own x e = ap (λ (o : Option Text). language.by_name o x (λ p. language.clears own p x (command_in own p))) e

pub bad_hidden : (own : Own) (x h : Text) → command_name x ≡ None → language.hidden_as own x h ≡ Err (refusal.BadName, x)
bad_hidden own x h e = ap (λ (o : Option Text). language.by_name o x (λ p. language.hides own p x h (command_in own p))) e

pub bad_exposed : (own : Own) (h x : Text) → is_some (hidden_in own h) ≡ true → command_name x ≡ None → language.exposed_as own h x ≡ Err (refusal.BadName, x)
bad_exposed own h x f e = by (hidden_in own h) f
  where
    by : (o : Option Command) → is_some o ≡ true → language.exposes own h x o ≡ Err (refusal.BadName, x)
    by None g = let z : false ≡ true = g in cc
    by (Some c) g = ap (λ (o : Option Text). language.by_name o x (λ p. cond (is_some (command_in own p)) (Err (refusal.Exists, x)) (Ok (record own { commands = own.commands ++ (p, c) ∷ []; hidden = remove_entry (bytes_eq h) own.hidden })))) e
