-- What naming a command comes to.
use Rattle.std.proofs.Common.{◌≡◌, ℕ, Bool, true, false, List, [], ◌∷◌, Option, Some, None, refl, sym, ap, subst, ◌∙◌, inl, inr}
use Rattle.std.specs.Prelude.{Ok, Err, cond, not, ◌&&◌, ◌||◌, ◌==◌, ◌++◌, is_some}
use Rattle.std.specs.Map.{remove_entry}
use Rattle.std.specs.Str.{bytes_eq}
use Rattle.tcl_core.specs.Endings.{Reply, ok}
use Rattle.tcl_core.specs.Endings.Reply.{Completed}
use Rattle.tcl_core.specs.Paths.{Path, Text}
use Rattle.tcl_core.specs.Trees.{Node}
use Rattle.tcl_language.specs.Instructions.{change, or_fails}
use Rattle.tcl_language.specs.Interpreters.{done_so, refused_text, renaming}
use Rattle.tcl_language.specs.Naming as language
use Rattle.tcl_language.specs.Naming.{command_name, without_colons, of_global, with_word}
use Rattle.tcl_run.specs.Ends.{Interrupts, failing}
use Rattle.tcl_run.specs.Runs.{IsLevel}
use Rattle.tcl_run.specs.declared.interruption.Interruption.{Interruption}
use Rattle.tcl_run.proofs.Endings.{Interrupts-more}
use Rattle.tcl_run.proofs.Plain.{does_look, does_read, does_change}
use Rattle.tcl_run.proofs.Steady.{stands, changed_level}
use Rattle.tcl_tree.specs.Changes as changes
use Rattle.tcl_tree.specs.Naming as tree
use Rattle.tcl_tree.specs.Naming.{Becomes, RefusesNaming}
use Rattle.tcl_tree.specs.Own.{Own, command_in}
use Rattle.tcl_tree.specs.Gone.{held_of}
use Rattle.tcl_tree.specs.TreeOf.{tree_of, key_of, marks_of, Names}
use Rattle.tcl_interpreter.specs.declared.command.Command.{Command}
use Rattle.tcl_interpreter.specs.declared.command.Command.TheVariants as command
use Rattle.tcl_interpreter.specs.declared.refusal.TreeError.{TreeError}
use Rattle.tcl_interpreter.specs.declared.refusal.TreeError.TheVariants as refusal
use Rattle.tcl_tree.specs.declared.tree.Tree.{Tree as Table}
use Rattle.tcl_tree.specs.declared.tree.Place.{Place as TablePlace}
use Rattle.tcl_tree.proofs.CoreLemmas.{tree_there}
use Rattle.tcl_frames.specs.Names as names
use Rattle.tcl_commands.specs.Renaming.{IsBadName, IsNoOwnCommand, IsOwnCommand, TellsRefusal, Told, is_memory}
use Rattle.tcl_commands.specs.Steps.{EndsAt}

-- ## Names

-- both say where two colons stand side by side
colons_so : (before : Bool) (xs : List ℕ) → names.colons_after before xs ≡ ((before && changes.is_colon xs) || changes.has_colons xs)
unfolding names.colons_after
colons_so true [] = refl
colons_so false [] = refl
colons_so true (x ∷ xs) = by (x == 58) (colons_so (x == 58) xs)
  where
    by : (b : Bool) → names.colons_after b xs ≡ ((b && changes.is_colon xs) || changes.has_colons xs) → (b || names.colons_after b xs) ≡ (b || ((b && changes.is_colon xs) || changes.has_colons xs))
    by b e = ap (λ c. b || c) e
colons_so false (x ∷ xs) = colons_so (x == 58) xs

colons_same : (x : Text) → names.has_colons x ≡ changes.has_colons x
colons_same x = colons_so false x

-- a name by which commands are kept is one that they can have
without_is : (x plain : Text) → without_colons x ≡ Some plain → names.has_colons plain ≡ false
without_is x plain e = by (names.has_colons x) refl e
  where
    by : (b : Bool) → names.has_colons x ≡ b → cond b None (Some x) ≡ Some plain → names.has_colons plain ≡ false
    by true f g = let clash : None ≡ Some plain = g in cc
    by false f g = let same : x ≡ plain = cc in ap names.has_colons (sym same) ∙ f

plain_is : (x plain : Text) → command_name x ≡ Some plain → names.has_colons plain ≡ false
plain_is x plain e = by (names.after_colons x) e
  where
    by : (o : Option Text) → of_global x o ≡ Some plain → names.has_colons plain ≡ false
    by None g = without_is x plain g
    by (Some rest) g = without_is rest plain g

can_have : (x plain : Text) → command_name x ≡ Some plain → changes.is_command_name plain ≡ true
can_have x plain e = ap not (sym (colons_same plain) ∙ plain_is x plain e)

-- ## What a table makes is what is named

module _ (own : Own) (x plain : Text) (kept : command_name x ≡ Some plain) where
  by_kept : (f : Text → language.Named) → language.by_name (command_name x) x f ≡ f plain
  by_kept f = ap (λ (o : Option Text). language.by_name o x f) kept

  cond_word : (b : Bool) (e : TreeError) (k : tree.Named) (r : language.Named) → r ≡ with_word x k → cond b (Err (e, x)) r ≡ with_word x (cond b (Err e) k)
  cond_word true e k r h = refl
  cond_word false e k r h = h

  pub named_so : (c : Command) → language.named own x c ≡ with_word x (tree.named own plain c)
  named_so c = by_kept _ ∙ cond_word (changes.is_child (command_in own plain)) refusal.Exists (Ok (changes.with_command plain c own)) (Ok (changes.with_command plain c own)) refl
      ∙ ap (λ b. with_word x (cond b (tree.keeps_child (command_in own plain) (Ok (changes.with_command plain c own))) (Err refusal.BadName))) (sym (can_have x plain kept))

  removes_so : (o : Option Command) → language.removes own plain x o ≡ with_word x (tree.without own plain o)
  removes_so None = refl
  removes_so (Some c) = cond_word (changes.is_child (Some c)) refusal.Exists (Ok (changes.without_command plain own)) (Ok (changes.without_command plain own)) refl

  pub removed_so : language.removed own x ≡ with_word x (tree.removed own plain)
  removed_so = by_kept _ ∙ removes_so (command_in own plain)

-- the other name is wrong, where it isn't the first
other_word : (y : Text) (b : Bool) (k : tree.Named) (r : language.Named) → r ≡ with_word y k → cond b (Err (refusal.Exists, y)) r ≡ with_word y (cond b (Err refusal.Exists) k)
other_word y true k r h = refl
other_word y false k r h = h

-- a name that no command has
free_so : (own : Own) (y other : Text) → command_name y ≡ Some other → (R : Text → Own) →
    language.by_name (command_name y) y (λ m. cond (is_some (command_in own m)) (Err (refusal.Exists, y)) (Ok (R m))) ≡ with_word y (tree.by_name other (tree.free (command_in own other) (Ok (R other))))
free_so own y other e R =
    ap (λ (o : Option Text). language.by_name o y (λ m. cond (is_some (command_in own m)) (Err (refusal.Exists, y)) (Ok (R m)))) e
    ∙ other_word y (is_some (command_in own other)) (Ok (R other)) (Ok (R other)) refl
    ∙ ap (λ b. with_word y (cond b (tree.free (command_in own other) (Ok (R other))) (Err refusal.BadName))) (sym (can_have y other e))

module _ (own : Own) (x plain y other : Text) (kept : command_name x ≡ Some plain) (kept_other : command_name y ≡ Some other) where
  renames_so : (o : Option Command) → IsOwnCommand o → language.renames own plain x y o ≡ with_word y (tree.with_other_name own plain other o)
  renames_so None h = elim h [ ]
  renames_so (Some command.Child) h = elim h [ ]
  renames_so (Some (command.Builtin b)) h = free_so own y other kept_other (λ m. record own { commands = remove_entry (bytes_eq plain) own.commands ++ (m, command.Builtin b) ∷ [] })
  renames_so (Some (command.Procedure p)) h = free_so own y other kept_other (λ m. record own { commands = remove_entry (bytes_eq plain) own.commands ++ (m, command.Procedure p) ∷ [] })
  renames_so (Some (command.Alias a)) h = free_so own y other kept_other (λ m. record own { commands = remove_entry (bytes_eq plain) own.commands ++ (m, command.Alias a) ∷ [] })

  pub renamed_so : IsOwnCommand (command_in own plain) → language.renamed own x y ≡ with_word y (tree.renamed own plain other)
  renamed_so h = by_kept own x plain kept _ ∙ renames_so (command_in own plain) h

-- ## What comes of it

module _ (t u : Table) (place : TablePlace) (f : Own → language.Named) where
  -- it was done
  pub renaming_done : (g : Own → tree.Named) (word text : Text) → text ≡ [] → ((p : Path) → Names t place p → Becomes (tree_of t) (tree_of u) p g) →
      ((p : Path) (n : Node Own) → Names t place p → tree_of t p ≡ Some n → f n.own ≡ with_word word (g n.own)) → EndsAt t place (λ style. renaming done_so f) (tree_of u) (Completed (ok text))
  renaming_done g word text none becomes same = subst (λ (x : Text). EndsAt t place (λ style. renaming done_so f) (tree_of u) (Completed (ok x))) (sym none) (λ p style at.
      let n = stands (tree_of t p) (tree_there t p _ at.names) in
      let b = becomes p at.names n.0 n.1 in
      does_look (tree_of t) (tree_of u) p (Completed (ok [])) n.0 (λ m. or_fails refused_text (f m.own) (λ own. change own done_so)) n.1
      (does_read (tree_of t) (tree_of u) p (Completed (ok [])) refused_text (f n.0.own) b.0 (λ own. change own done_so) (same p n.0 at.names n.1 ∙ ap (with_word word) b.1)
      (does_change (tree_of t) (tree_of u) (tree_of u) p (Completed (ok [])) n.0 b.0 done_so n.1 b.2 (refl, refl))))

  pub renaming_level : (g : Own → tree.Named) → (p : Path) × Names t place p → ((p : Path) → Names t place p → Becomes (tree_of t) (tree_of u) p g) →
      ((q : Path) → key_of u q ≡ key_of t q) → ((k : ℕ) → held_of u k ≡ held_of t k) → marks_of u ≡ marks_of t → IsLevel t u
  renaming_level g at becomes keys held marks =
      let n = stands (tree_of t at.0) (tree_there t at.0 _ at.1) in
      let b = becomes at.0 at.1 n.0 n.1 in
      changed_level t u at.0 b.0 marks keys held b.2

  -- it is refused, whatever the table says
  pub renaming_fails : (i : Interruption) → tree_of u ≡ tree_of t →
      Interrupts i (λ r. (p : Path) (n : Node Own) → Names t place p → tree_of t p ≡ Some n → (e : TreeError × Text) × (f n.own ≡ Err e) × (r ≡ Completed (failing (refused_text e)))) →
      Interrupts i (EndsAt t place (λ style. renaming done_so f) (tree_of u))
  renaming_fails i same h = Interrupts-more i _ _ (λ r k p style at.
      let n = stands (tree_of t p) (tree_there t p _ at.names) in
      let e = k p n.0 at.names n.1 in
      does_look (tree_of t) (tree_of u) p r n.0 (λ m. or_fails refused_text (f m.own) (λ own. change own done_so)) n.1
      (subst (λ (x : language.Named). Rattle.tcl_run.specs.Plain.Does (or_fails refused_text x (λ own. change own done_so)) (tree_of t) p (tree_of u) r) (sym e.1) (same, e.2))) h

  told_by : (b : Bool) (e : TreeError) (word : Text) (i : Interruption) → is_memory e ≡ b → Told b e word i → (g : Own → tree.Named) →
      ((p : Path) → Names t place p → RefusesNaming e (tree_of t) p g) →
      ((p : Path) (n : Node Own) → Names t place p → tree_of t p ≡ Some n → f n.own ≡ with_word word (g n.own)) →
      Interrupts i (λ r. (p : Path) (n : Node Own) → Names t place p → tree_of t p ≡ Some n → (e : TreeError × Text) × (f n.own ≡ Err e) × (r ≡ Completed (failing (refused_text e))))
  told_by true e word i m told g refuses same =
      subst (λ (j : Interruption). Interrupts j (λ r. (p : Path) (n : Node Own) → Names t place p → tree_of t p ≡ Some n → (x : TreeError × Text) × (f n.own ≡ Err x) × (r ≡ Completed (failing (refused_text x))))) (sym told) tt
  told_by false e word i m told g refuses same = Interrupts-more i _ _ (λ r k p n at there.
      elim (refuses p at n there) [
        | inl memory ↦ (let clash : true ≡ false = ap is_memory (sym memory) ∙ m in cc)
        | inr why ↦ ((e, word), same p n at there ∙ ap (with_word word) why, k)
      ]) told

  -- it was refused
  pub renaming_refused : (g : Own → tree.Named) (e : TreeError) (word : Text) (i : Interruption) → tree_of u ≡ tree_of t → TellsRefusal e word i → ((p : Path) → Names t place p → RefusesNaming e (tree_of t) p g) →
      ((p : Path) (n : Node Own) → Names t place p → tree_of t p ≡ Some n → f n.own ≡ with_word word (g n.own)) → Interrupts i (EndsAt t place (λ style. renaming done_so f) (tree_of u))
  renaming_refused g e word i same told refuses so = renaming_fails i same (told_by (is_memory e) e word i refl told g refuses so)

-- ## What stands before it

name_bad : (x : Text) (o : Option Text) (r : Reply) (f : Text → language.Named) → IsBadName x o r → (e : TreeError × Text) × (language.by_name o x f ≡ Err e) × (r ≡ Completed (failing (refused_text e)))
name_bad x None r f h = ((refusal.BadName, x), refl, h)
name_bad x (Some plain) r f h = elim h [ ]

-- no command has the name
pub bad_name_ends : (t : Table) (place : TablePlace) (f : Own → language.Named) (x : Text) (g : Own → Text → language.Named) (i : Interruption) → ((own : Own) → f own ≡ language.by_name (command_name x) x (g own)) →
    Interrupts i (IsBadName x (command_name x)) → Interrupts i (EndsAt t place (λ style. renaming done_so f) (tree_of t))
bad_name_ends t place f x g i is h = renaming_fails t t place f i refl (Interrupts-more i _ _ (λ r k p n at there.
    let e = name_bad x (command_name x) r (g n.own) k in
    (e.0, is n.own ∙ e.1, e.2)) h)

-- no command of its own has the name
no_own : (own : Own) (x plain y : Text) (o : Option Command) (r : Reply) → IsNoOwnCommand x o r → (e : TreeError × Text) × (language.renames own plain x y o ≡ Err e) × (r ≡ Completed (failing (refused_text e)))
no_own own x plain y None r h = ((refusal.NoCommand, x), refl, h)
no_own own x plain y (Some command.Child) r h = ((refusal.Exists, x), refl, h)
no_own own x plain y (Some (command.Builtin b)) r h = elim h [ ]
no_own own x plain y (Some (command.Procedure p)) r h = elim h [ ]
no_own own x plain y (Some (command.Alias a)) r h = elim h [ ]

pub no_own_ends : (t : Table) (place : TablePlace) (x plain y : Text) (i : Interruption) → command_name x ≡ Some plain →
    Interrupts i (λ e. (p : Path) (n : Node Own) → Names t place p → tree_of t p ≡ Some n → IsNoOwnCommand x (command_in n.own plain) e) →
    Interrupts i (EndsAt t place (λ style. renaming done_so (λ own. language.renamed own x y)) (tree_of t))
no_own_ends t place x plain y i kept h = renaming_fails t t place (λ own. language.renamed own x y) i refl (Interrupts-more i _ _ (λ r k p n at there.
    let e = no_own n.own x plain y (command_in n.own plain) r (k p n at there) in
    (e.0, by_kept n.own x plain kept (λ m. language.renames n.own m x y (command_in n.own m)) ∙ e.1, e.2)) h)

-- no command has the other name
bad_other : (own : Own) (x plain y : Text) (o : Option Command) (r : Reply) → IsOwnCommand o → IsBadName y (command_name y) r → (e : TreeError × Text) × (language.renames own plain x y o ≡ Err e) × (r ≡ Completed (failing (refused_text e)))
bad_other own x plain y None r h k = elim h [ ]
bad_other own x plain y (Some command.Child) r h k = elim h [ ]
bad_other own x plain y (Some (command.Builtin b)) r h k = name_bad y (command_name y) r _ k
bad_other own x plain y (Some (command.Procedure p)) r h k = name_bad y (command_name y) r _ k
bad_other own x plain y (Some (command.Alias a)) r h k = name_bad y (command_name y) r _ k

pub bad_other_ends : (t : Table) (place : TablePlace) (x plain y : Text) (i : Interruption) → command_name x ≡ Some plain →
    ((p : Path) (n : Node Own) → Names t place p → tree_of t p ≡ Some n → IsOwnCommand (command_in n.own plain)) → Interrupts i (IsBadName y (command_name y)) →
    Interrupts i (EndsAt t place (λ style. renaming done_so (λ own. language.renamed own x y)) (tree_of t))
bad_other_ends t place x plain y i kept own h = renaming_fails t t place (λ own. language.renamed own x y) i refl (Interrupts-more i _ _ (λ r k p n at there.
    let e = bad_other n.own x plain y (command_in n.own plain) r (own p n at there) k in
    (e.0, by_kept n.own x plain kept (λ m. language.renames n.own m x y (command_in n.own m)) ∙ e.1, e.2)) h)
