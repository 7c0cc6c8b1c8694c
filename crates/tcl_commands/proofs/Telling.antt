-- What `info` comes to.
use Rattle.std.proofs.Common.{◌≡◌, ℕ, zero, suc, ℤ, Bool, List, [], ◌∷◌, Option, Some, None, refl, sym, ap, subst, ◌∙◌}
use Rattle.std.specs.Prelude.{Result, Ok, Err, codes}
use Rattle.std.specs.Fmt.{decimal}
use Rattle.tcl_core.specs.Endings.{ok}
use Rattle.tcl_core.specs.Endings.Reply.{Completed}
use Rattle.tcl_core.specs.Paths.{Path, Text}
use Rattle.tcl_core.specs.Programs.Prog.{done}
use Rattle.tcl_core.specs.Trees.{Node}
use Rattle.tcl_frames.specs.Chain.{Chain, exists_at, names_of}
use Rattle.tcl_frames.specs.Places.{current}
use Rattle.tcl_frames.specs.declared.scope.Scope.{Scope}
use Rattle.tcl_language.specs.Faults.{bad_level, frame_message, integer_message}
use Rattle.tcl_language.specs.Inspection as inspection
use Rattle.tcl_language.specs.Instructions.{either, fails, fits, gives, look, or_fails, too_long}
use Rattle.tcl_run.specs.Ends.{Gave, IfEnded, Interrupts, failing}
use Rattle.tcl_run.specs.Plain.{Acts}
use Rattle.tcl_run.specs.declared.interruption.Interruption.{Interruption}
use Rattle.tcl_text.specs.Numbers.{in_64_bits, integer_of}
use Rattle.tcl_text.specs.Writing.{written_list}
use Rattle.tcl_text.specs.declared.integer.Integers.{Integers}
use Rattle.tcl_tree.specs.Own.{Own}
use Rattle.tcl_tree.specs.TreeOf.{tree_of, marks_of, Names}
use Rattle.tcl_tree.specs.declared.tree.Tree.{Tree as Table}
use Rattle.tcl_tree.specs.declared.tree.Place.{Place as TablePlace}
use Rattle.tcl_commands.specs.Answers.{IsGiven}
use Rattle.tcl_commands.specs.Calls.{words_numbered}
use Rattle.tcl_commands.specs.Steps.{EndsAt, Leads, Styled}
use Rattle.tcl_commands.proofs.Answering.{written_acts}
use Rattle.tcl_commands.proofs.Going.{acts_as, ends_done, found_by_look, goes_acts, passed_acts}
use Rattle.tcl_commands.proofs.Looking.{acts_looking, fails_acts, gives_acts, told_looking}
use Rattle.tcl_commands.proofs.Setting.{integer_finds}
use Rattle.tcl_lists.specs.Lists.{list_of}

-- the chain of the interpreter that the place names
abbrev pub Seen : Table → TablePlace → Chain → Type 0
Seen t place chain = (p : Path) (n : Node Own) → Names t place p → tree_of t p ≡ Some n → chain ≡ n.own.chain

module _ (t : Table) (place : TablePlace) where
  -- ## Numbers

  pub cmdcount_ends : (args : List Text) (text : Text) (count : ℕ) → args ≡ [] → text ≡ decimal count → ((p : Path) (n : Node Own) → Names t place p → tree_of t p ≡ Some n → count ≡ n.count) →
      EndsAt t place (λ style. inspection.cmdcount args) (tree_of t) (Completed (ok text))
  cmdcount_ends args text count none is same =
      subst (λ (xs : List Text). EndsAt t place (λ style. inspection.cmdcount xs) (tree_of t) (Completed (ok text))) (sym none)
      (told_looking t place (λ n. done (ok (decimal n.count))) text (λ p n at there. ap (λ (x : Text). done (ok x)) (ap decimal (sym (same p n at there)) ∙ sym is)))

  pub level_ends : (args : List Text) (text : Text) (level : ℕ) (chain : Chain) → args ≡ [] → text ≡ decimal level → level ≡ current chain.frames → Seen t place chain →
      EndsAt t place (λ style. inspection.level style args) (tree_of t) (Completed (ok text))
  level_ends args text level chain none is same seen =
      subst (λ (xs : List Text). EndsAt t place (λ style. inspection.level style xs) (tree_of t) (Completed (ok text))) (sym none)
      (told_looking t place (λ n. done (ok (decimal (current n.own.chain.frames)))) text
      (λ p n at there. ap (λ (x : Text). done (ok x)) (ap decimal (ap (λ (c : Chain). current c.frames) (sym (seen p n at there)) ∙ sym same) ∙ sym is)))

  -- ## Names

  pub names_all : (scope : Scope) (form : Text) (args : List Text) (chain : Chain) (texts : List Text) (result : Result Text Interruption) → args ≡ [] → texts ≡ names_of scope chain.frames → Seen t place chain →
      IfEnded result (λ r. r ≡ Completed (either (fits (written_list texts)) (ok (written_list texts)) too_long)) → Acts t place (λ style. inspection.names scope form args) t result
  names_all scope form args chain texts result none is seen ended =
      subst (λ (xs : List Text). Acts t place (λ style. inspection.names scope form xs) t result) (sym none)
      (acts_looking t t place (λ n. gives (written_list (names_of scope n.own.chain.frames))) (gives (written_list texts)) result
      (λ p n at there. ap (λ (xs : List Text). gives (written_list xs)) (ap (λ (c : Chain). names_of scope c.frames) (sym (seen p n at there)) ∙ sym is)) (gives_acts t place (written_list texts) result ended))

  pub names_matching : (scope : Scope) (form : Text) (args : List Text) (pattern : Text) (chain : Chain) (texts : List Text) (result : Result Text Interruption) → args ≡ pattern ∷ [] →
      texts ≡ inspection.matching pattern (names_of scope chain.frames) → Seen t place chain →
      IfEnded result (λ r. r ≡ Completed (either (fits (written_list texts)) (ok (written_list texts)) too_long)) → Acts t place (λ style. inspection.names scope form args) t result
  names_matching scope form args pattern chain texts result one is seen ended =
      subst (λ (xs : List Text). Acts t place (λ style. inspection.names scope form xs) t result) (sym one)
      (acts_looking t t place (λ n. gives (written_list (inspection.matching pattern (names_of scope n.own.chain.frames)))) (gives (written_list texts)) result
      (λ p n at there. ap (λ (xs : List Text). gives (written_list xs)) (ap (λ (c : Chain). inspection.matching pattern (names_of scope c.frames)) (sym (seen p n at there)) ∙ sym is))
      (gives_acts t place (written_list texts) result ended))

  -- ## Whether there is a value

  exists_found : (name : Text) (chain : Chain) (result : Result Bool Interruption) → Seen t place chain → Gave frame_message (exists_at chain.frames name) result →
      (rest : Bool → Styled) → Rattle.std.specs.Prelude.MatchResult result (λ b. Leads t place (λ style. look (λ n. or_fails frame_message (exists_at n.own.chain.frames name) (λ b. rest b style))) t (rest b))
      (λ i. Interrupts i (EndsAt t place (λ style. look (λ n. or_fails frame_message (exists_at n.own.chain.frames name) (λ b. rest b style))) (tree_of t)))
  exists_found name chain result seen given =
      found_by_look t place frame_message (λ n. exists_at n.own.chain.frames name) result (λ p n at there. subst (λ (c : Chain). Gave frame_message (exists_at c.frames name) result) (seen p n at there) given)

  pub exists_ends : (args : List Text) (name text : Text) (chain : Chain) (held : Bool) → args ≡ name ∷ [] → Seen t place chain → exists_at chain.frames name ≡ Ok held → text ≡ either held (codes "1") (codes "0") →
      EndsAt t place (λ style. inspection.exists args) (tree_of t) (Completed (ok text))
  exists_ends args name text chain held one seen found is =
      subst (λ (xs : List Text). EndsAt t place (λ style. inspection.exists xs) (tree_of t) (Completed (ok text))) (sym one)
      (subst (λ (x : Text). EndsAt t place (λ style. inspection.exists (name ∷ [])) (tree_of t) (Completed (ok x))) (sym is)
      (exists_found name chain (Ok held) seen found (λ b style. inspection.answer b) (tree_of t) (Completed (ok (either held (codes "1") (codes "0")))) (ends_done t place (ok (either held (codes "1") (codes "0"))))))

  pub exists_fails : (args : List Text) (name : Text) (chain : Chain) (i : Interruption) → args ≡ name ∷ [] → Seen t place chain → Gave {A = Bool} frame_message (exists_at chain.frames name) (Err i) →
      Interrupts i (EndsAt t place (λ style. inspection.exists args) (tree_of t))
  exists_fails args name chain i one seen given =
      subst (λ (xs : List Text). Interrupts i (EndsAt t place (λ style. inspection.exists xs) (tree_of t))) (sym one) (exists_found name chain (Err i) seen given (λ b style. inspection.answer b))

  -- ## Words of calls

  words_are : (text : Text) (o : Option ℕ) (n : Node Own) → inspection.words_of text o n ≡ inspection.words_or text (words_numbered o n.own.chain.frames)
  words_are text None n = refl
  words_are text (Some zero) n = refl
  words_are text (Some (suc level)) n = refl

  call_is : (text : Text) (z : ℤ) (chain : Chain) (o : Option (List Text)) → o ≡ words_numbered (inspection.numbered (current chain.frames) z) chain.frames → Seen t place chain → (p : Path) (n : Node Own) → Names t place p → tree_of t p ≡ Some n →
      inspection.words_of text (inspection.numbered (current n.own.chain.frames) z) n ≡ inspection.words_or text o
  call_is text z chain o is seen p n at there =
      words_are text (inspection.numbered (current n.own.chain.frames) z) n
      ∙ ap (λ (c : Chain). inspection.words_or text (words_numbered (inspection.numbered (current c.frames) z) c.frames)) (sym (seen p n at there)) ∙ ap (inspection.words_or text) (sym is)

  pub call_acts : (text : Text) (z : ℤ) (chain : Chain) (words : List Text) (result : Result Text Interruption) → Some words ≡ words_numbered (inspection.numbered (current chain.frames) z) chain.frames → Seen t place chain → IsGiven (list_of words) result →
      Acts t place (λ style. look (λ n. inspection.words_of text (inspection.numbered (current n.own.chain.frames) z) n)) t result
  call_acts text z chain words result is seen given =
      acts_looking t t place (λ n. inspection.words_of text (inspection.numbered (current n.own.chain.frames) z) n) (gives (written_list words)) result (call_is text z chain (Some words) is seen) (written_acts t place words result given)

  pub call_fails : (text : Text) (z : ℤ) (chain : Chain) (i : Interruption) → None ≡ words_numbered (inspection.numbered (current chain.frames) z) chain.frames → Seen t place chain → Interrupts i (λ e. e ≡ Completed (failing (bad_level text))) →
      Interrupts i (EndsAt t place (λ style. look (λ n. inspection.words_of text (inspection.numbered (current n.own.chain.frames) z) n)) (tree_of t))
  call_fails text z chain i is seen told =
      acts_looking t t place (λ n. inspection.words_of text (inspection.numbered (current n.own.chain.frames) z) n) (fails (bad_level text)) (Err i) (call_is text z chain None is seen) (fails_acts t place (bad_level text) i told)

  pub level_acts : (args : List Text) (word : Text) (z : ℤ) (own : Integers) (result : Result Text Interruption) → args ≡ word ∷ [] → own ≡ (marks_of t).integers → Gave (integer_message word) (in_64_bits (integer_of own word)) (Ok z) →
      Acts t place (λ style. look (λ n. inspection.words_of word (inspection.numbered (current n.own.chain.frames) z) n)) t result → Acts t place (λ style. inspection.level style args) t result
  level_acts args word z own result one same given acts =
      subst (λ (xs : List Text). Acts t place (λ style. inspection.level style xs) t result) (sym one)
      (goes_acts t t t place (λ style. inspection.level style (word ∷ [])) (λ style. look (λ n. inspection.words_of word (inspection.numbered (current n.own.chain.frames) z) n)) result
      (integer_finds t place word own (Ok z) same given (λ m style. look (λ n. inspection.words_of word (inspection.numbered (current n.own.chain.frames) m) n))) acts)

  pub level_fails : (args : List Text) (word : Text) (own : Integers) (i y : Interruption) (result : Result Text Interruption) → args ≡ word ∷ [] → own ≡ (marks_of t).integers → result ≡ Err y → y ≡ i →
      Gave {A = ℤ} (integer_message word) (in_64_bits (integer_of own word)) (Err i) → Acts t place (λ style. inspection.level style args) t result
  level_fails args word own i y result one same e is given =
      subst (λ (xs : List Text). Acts t place (λ style. inspection.level style xs) t result) (sym one)
      (passed_acts t t place (λ style. inspection.level style (word ∷ [])) i y result e is
      (integer_finds t place word own (Err i) same given (λ m style. look (λ n. inspection.words_of word (inspection.numbered (current n.own.chain.frames) m) n))))

  -- ## Subcommands

  pub chosen_as : (word name : Text) (args : List Text) (y : Styled) (result : Result Text Interruption) → word ≡ name → ((style : Integers) → inspection.chosen style name args ≡ y style) → Acts t place y t result →
      Acts t place (λ style. inspection.chosen style word args) t result
  chosen_as word name args y result is same acts = acts_as t t place (λ style. inspection.chosen style word args) y result (λ style. ap (λ (w : Text). inspection.chosen style w args) is ∙ same style) acts

  pub info_acts : (u : Table) (args : List Text) (word : Text) (rest : List Text) (result : Result Text Interruption) → args ≡ word ∷ rest → Acts t place (λ style. inspection.chosen style word rest) u result → Acts t place (λ style. inspection.info style args) u result
  info_acts u args word rest result e acts = subst (λ (xs : List Text). Acts t place (λ style. inspection.info style xs) u result) (sym e) acts
