-- What calls come to whose words are at hand.
use Rattle.std.proofs.Common.{◌≡◌, inl, inr, ℕ, ◌≤◌, Bool, true, false, List, [], ◌∷◌, ◌++◌, length, Option, IfSome, Some, None, refl, sym, ◌∙◌, ap, subst, append-nil, append_assoc, length-append, arith}
use Rattle.std.proofs.lemmas.Bool.Decides.{nat_tests}
use Rattle.tcl_core.specs.Paths.{Path}
use Rattle.tcl_core.specs.Endings.{ok}
use Rattle.tcl_core.specs.Endings.Reply.{Completed}
use Rattle.tcl_core.specs.Runs.{Ending}
use Rattle.tcl_core.specs.Trees.{Tree, Node}
use Rattle.tcl_frames.specs.Places.{Levels}
use Rattle.tcl_frames.specs.declared.fault.FrameFault.{FrameFault}
use Rattle.tcl_language.specs.Instructions.{Open, fits}
use Rattle.tcl_language.specs.Instructions.Instr.{Parts}
use Rattle.tcl_language.specs.Scripts.{parts, words}
use Rattle.tcl_run.specs.Language.{language}
use Rattle.tcl_parser.specs.Reading.{read_script}
use Rattle.tcl_parser.specs.Words.{WordRead}
use Rattle.tcl_parser.specs.declared.script.Part.{Part}
use Rattle.tcl_parser.specs.declared.script.Part.TheVariants.{Literal, Variable, Element, EndElement, Script}
use Rattle.tcl_prepared.specs.Views.{literal_word}
use Rattle.tcl_run.specs.Ends.{Stays}
use Rattle.tcl_run.specs.Runs.{Proceeds, Ways}
use Rattle.std.specs.Prelude.{Result}
use Rattle.tcl_calls.specs.Words.{AtOk, Closes}
use Rattle.tcl_run.proofs.Proceeding.{at_prog, at_reply, completed, goes_done}
use Rattle.tcl_text.specs.declared.integer.Integers.{Integers}
use Rattle.tcl_tree.specs.Own.{Own}
use Rattle.tcl_evaluation.specs.Hands.{AllEnd, AllStand, ElementStands, EndsAs, IsCounted, PartStands, PartsStand, StandsFor, WordStands, one_of}
use Rattle.tcl_evaluation.specs.Scripts.{read_so}
use Rattle.tcl_evaluation.proofs.Standing.{literal_parts_stand}
use Rattle.tcl_evaluation.proofs.Steps.{closing_goes, literal_goes, script_goes, script_stays, single_goes, variable_goes, within_fits, word_stays}

-- the front of a text within the limit is within it
shorter_fits : (front rest : List ℕ) → fits (front ++ rest) ≡ true → fits front ≡ true
shorter_fits front rest h =
    let whole : length (front ++ rest) ≤ 16777216 = grind (arith, nat_tests) in
    let len = length-append front rest in
    within_fits front (omega (arith, len, whole))

-- a literal stands for its text
pub literal_stands : (frames : Levels) (word : WordRead) (text : List ℕ) → word ≡ literal_word text → fits text ≡ true → StandsFor frames word text
literal_stands frames word text e f = record { single = ap (λ (w : WordRead). w.expand) e; short = f; by = inl (subst (λ (ps : List Part). PartsStand frames ps text) (sym (ap (λ (w : WordRead). w.parts) e)) (literal_parts_stand frames text)) }

-- where none of the words is a sum, all stand for texts
pub none_sums : (style : Integers) (n : Node Own) (ws : List WordRead) (ts : List (List ℕ)) → AllEnd style n ws false ts → AllStand n.own.chain.frames ws ts
none_sums style n [] [] h = tt
none_sums style n [] (x ∷ ts) h = elim h [ ]
none_sums style n (w ∷ ws) [] h = elim h [ ]
none_sums style n (w ∷ ws) (x ∷ ts) (inl h) = (h.0, none_sums style n ws ts h.1)
none_sums style n (w ∷ ws) (x ∷ ts) (inr h) = let clash : false ≡ true = h.0 in cc

module _ {S : Type 0} {ways : Ways S} (style : Integers) where
  -- ## Words that stand for texts

  part_goes : {T : Tree Own} {o : S} {p : Path} {n : Node Own} {r : Ending} (x : Part) (ps : List Part) (elements : List Open) (before text : List ℕ) → T p ≡ Some n → PartStands n.own.chain.frames x text → fits (before ++ text) ≡ true →
      Proceeds ways (language style) T o p (parts ps elements (before ++ text)) T o r → Proceeds ways (language style) T o p (parts (x ∷ ps) elements before) T o r
  part_goes (Literal more) ps elements before text there e short t = literal_goes style more ps elements before (ap (λ (v : List ℕ). fits (before ++ v)) e ∙ short) (at_prog (ap (λ (v : List ℕ). parts ps elements (before ++ v)) e) t)
  part_goes (Variable name) ps elements before text there e short t = variable_goes style name text ps elements before there e short t
  part_goes (Element name) ps elements before text there e short t = elim e [ ]
  part_goes EndElement ps elements before text there e short t = elim e [ ]
  part_goes (Script inner) ps elements before text there e short t = elim e [ ]

  parts_go : {T : Tree Own} {o : S} {p : Path} {n : Node Own} (ps : List Part) (before text : List ℕ) → T p ≡ Some n → PartsStand n.own.chain.frames ps text → fits (before ++ text) ≡ true →
      Proceeds ways (language style) T o p (parts ps [] before) T o (Some (Completed (ok (before ++ text))))
  parts_go [] before text there h short = at_reply (ap (λ (t : List ℕ). Completed (ok (before ++ t))) h ∙ ap (λ (t : List ℕ). Completed (ok t)) (append-nil before)) completed
  parts_go (x ∷ ps) before text there h short =
      let whole : fits ((before ++ h.0) ++ h.1) ≡ true = ap fits (append_assoc before h.0 h.1 ∙ ap (λ (t : List ℕ). before ++ t) (sym h.2)) ∙ short in
      let all : before ++ text ≡ (before ++ h.0) ++ h.1 = ap (λ (t : List ℕ). before ++ t) h.2 ∙ sym (append_assoc before h.0 h.1) in
      part_goes x ps [] before h.0 there h.3 (shorter_fits (before ++ h.0) h.1 whole)
      (at_reply (ap (λ (t : List ℕ). Completed (ok t)) all) (parts_go ps (before ++ h.0) h.1 there h.4 whole))

  -- the parts of one element of an array come to what it holds
  element_goes : {T : Tree Own} {o : S} {p : Path} {n : Node Own} (ps : List Part) (text : List ℕ) → T p ≡ Some n → ElementStands n.own.chain.frames ps text → fits text ≡ true →
      Proceeds ways (language style) T o p (parts ps [] []) T o (Some (Completed (ok text)))
  element_goes {n = n} ps text there e short =
      let element : Open = record { name = e.array; before = [] } in
      let closes : Closes n (element ∷ []) e.key [] text = (refl, subst (λ (held : Result (List ℕ) FrameFault). AtOk held (λ v. (fits ([] ++ v) ≡ true) × (text ≡ [] ++ v))) (sym e.holds) (short, refl)) in
      at_prog (ap (λ (qs : List Part). parts qs [] []) e.are)
      (goes_done {i = Parts (e.part ∷ EndElement ∷ []) (element ∷ []) []}
      (part_goes e.part (EndElement ∷ []) (element ∷ []) [] e.key there e.stands e.short
      (closing_goes style [] (element ∷ []) [] e.key text there closes completed)))

  -- the parts of a word at hand come to its text, whichever it is
  pub word_stands_goes : {T : Tree Own} {o : S} {p : Path} {n : Node Own} (ps : List Part) (text : List ℕ) → T p ≡ Some n → WordStands n.own.chain.frames ps text → fits text ≡ true →
      Proceeds ways (language style) T o p (parts ps [] []) T o (Some (Completed (ok text)))
  word_stands_goes ps text there (inl h) short = parts_go ps [] text there h short
  word_stands_goes ps text there (inr h) short = element_goes ps text there h short

  stands_goes : {T V : Tree Own} {o z : S} {p : Path} {n : Node Own} {r : Ending} (word : WordRead) (rest : List WordRead) (before : List (List ℕ)) (text : List ℕ) → T p ≡ Some n → StandsFor n.own.chain.frames word text →
      Proceeds ways (language style) T o p (words rest (before ++ text ∷ [])) V z r → Proceeds ways (language style) T o p (words (word ∷ rest) before) V z r
  stands_goes word rest before text there s t = single_goes style word rest before (ok text) text s.single refl refl (word_stands_goes word.parts text there s.by s.short) t

  all_stand : {T V : Tree Own} {o z : S} {p : Path} {n : Node Own} {r : Ending} (ws rest : List WordRead) (before ts : List (List ℕ)) → T p ≡ Some n → AllStand n.own.chain.frames ws ts →
      Proceeds ways (language style) T o p (words rest (before ++ ts)) V z r → Proceeds ways (language style) T o p (words (ws ++ rest) before) V z r
  all_stand [] rest before [] there h t = at_prog (ap (words rest) (sym (append-nil before))) t
  all_stand [] rest before (x ∷ ts) there h t = elim h [ ]
  all_stand (w ∷ ws) rest before [] there h t = elim h [ ]
  all_stand (w ∷ ws) rest before (x ∷ ts) there h t =
      stands_goes w (ws ++ rest) before x there h.0 (all_stand ws rest (before ++ x ∷ []) ts there h.1 (at_prog (ap (words rest) (append_assoc before (x ∷ []) ts)) t))

  -- ## The words of a call

  pub words_go : {T V : Tree Own} {o z : S} {p : Path} {n : Node Own} {r : Ending} (ws : List WordRead) (ts : List (List ℕ)) → T p ≡ Some n → AllStand n.own.chain.frames ws ts →
      Proceeds ways (language style) T o p (words [] ts) V z r → Proceeds ways (language style) T o p (words ws []) V z r
  words_go ws ts there h t = at_prog (ap (λ (x : List WordRead). words x []) (sym (append-nil ws))) (all_stand ws [] [] ts there h t)

  pub plain_goes : {T V : Tree Own} {o z : S} {p : Path} {n : Node Own} {r : Ending} (ws : List WordRead) (ts : List (List ℕ)) → T p ≡ Some n → AllEnd style n ws false ts →
      Proceeds ways (language style) T o p (words [] ts) V z r → Proceeds ways (language style) T o p (words ws []) V z r
  plain_goes {n = n} ws ts there h t = words_go ws ts there (none_sums style n ws ts h) t

  -- a sum among them is counted, which changes no own part
  pub sum_goes : {T U V : Tree Own} {o u z : S} {p : Path} {n m : Node Own} {r : Ending} (ws : List WordRead) (before ts : List (List ℕ)) → T p ≡ Some n → AllEnd style n ws true ts →
      ((inner text : List ℕ) → IsCounted style n (read_script inner) text → Proceeds ways (language style) T o p (read_so (read_script inner)) U u (Some (Completed (ok text)))) →
      U p ≡ Some m → m.own ≡ n.own → Proceeds ways (language style) U u p (words [] (before ++ ts)) V z r → Proceeds ways (language style) T o p (words ws before) V z r
  sum_goes [] before [] there h s still same t = let clash : true ≡ false = h in cc
  sum_goes [] before (x ∷ ts) there h s still same t = elim h [ ]
  sum_goes (w ∷ ws) before [] there h s still same t = elim h [ ]
  sum_goes (w ∷ ws) before (x ∷ ts) there (inl h) s still same t =
      stands_goes w ws before x there h.0 (sum_goes ws (before ++ x ∷ []) ts there h.1 s still same (at_prog (ap (words []) (append_assoc before (x ∷ []) ts)) t))
  sum_goes {n = n} {m = m} (w ∷ ws) before (x ∷ ts) there (inr h) s still same t =
      let stand : AllStand m.own.chain.frames ws ts = subst (λ (own : Own). AllStand own.chain.frames ws ts) (sym same) h.2 in
      single_goes style w ws before (ok x) x h.1.0 refl refl
      (at_prog (ap (λ (ps : List Part). parts ps [] []) h.1.3) (script_goes style h.1.2 x [] [] [] (ok x) refl refl (s h.1.2 x h.1.4) h.1.1 completed))
      (at_prog (ap (λ (y : List WordRead). words y (before ++ x ∷ [])) (sym (append-nil ws)))
      (all_stand ws [] (before ++ x ∷ []) ts still stand (at_prog (ap (words []) (append_assoc before (x ∷ []) ts)) t)))

  -- and it ends the command
  pub sum_ends : {T U : Tree Own} {o u : S} {p : Path} {n : Node Own} (ws : List WordRead) (before ts : List (List ℕ)) (e : Ending) → T p ≡ Some n → AllEnd style n ws true ts → Stays e →
      ((inner text : List ℕ) → IsCounted style n (read_script inner) text → Proceeds ways (language style) T o p (read_so (read_script inner)) U u e) → Proceeds ways (language style) T o p (words ws before) U u e
  sum_ends [] before [] e there h stays s = let clash : true ≡ false = h in cc
  sum_ends [] before (x ∷ ts) e there h stays s = elim h [ ]
  sum_ends (w ∷ ws) before [] e there h stays s = elim h [ ]
  sum_ends (w ∷ ws) before (x ∷ ts) e there (inl h) stays s =
      stands_goes w ws before x there h.0 (sum_ends ws (before ++ x ∷ []) ts e there h.1 stays s)
  sum_ends (w ∷ ws) before (x ∷ ts) e there (inr h) stays s =
      word_stays style w ws before e stays
      (at_prog (ap (λ (ps : List Part). parts ps [] []) h.1.3) (script_stays style h.1.2 [] [] [] e stays (s h.1.2 x h.1.4)))

-- ## Words behind others

all_append : (frames : Levels) (ws vs : List WordRead) (ts us : List (List ℕ)) → AllStand frames ws ts → AllStand frames vs us → AllStand frames (ws ++ vs) (ts ++ us)
all_append frames [] vs [] us h k = k
all_append frames [] vs (x ∷ ts) us h k = elim h [ ]
all_append frames (w ∷ ws) vs [] us h k = elim h [ ]
all_append frames (w ∷ ws) vs (x ∷ ts) us h k = (h.0, all_append frames ws vs ts us h.1 k)

only_first : (b c : Bool) → one_of true b ≡ Some c → (b ≡ false) × (c ≡ true)
only_first true c e = let clash : None ≡ Some c = e in cc
only_first false c e = let same : true ≡ c = cc in (refl, sym same)

pub ends_one : (style : Integers) (n : Node Own) (w : WordRead) (b : Bool) (x : List ℕ) → EndsAs style n w b x → AllEnd style n (w ∷ []) b (x ∷ [])
ends_one style n w false x h = inl (h, refl)
ends_one style n w true x h = inr (refl, h, tt)

pub ends_append : (style : Integers) (n : Node Own) (ws vs : List WordRead) (ts us : List (List ℕ)) (a b c : Bool) → one_of a b ≡ Some c → AllEnd style n ws a ts → AllEnd style n vs b us → AllEnd style n (ws ++ vs) c (ts ++ us)
ends_append style n [] vs [] us true b c e h k = let clash : true ≡ false = h in cc
ends_append style n [] vs [] us false b c e h k = let same : b ≡ c = cc in subst (λ (x : Bool). AllEnd style n vs x us) same k
ends_append style n [] vs (x ∷ ts) us a b c e h k = elim h [ ]
ends_append style n (w ∷ ws) vs [] us a b c e h k = elim h [ ]
ends_append style n (w ∷ ws) vs (x ∷ ts) us a b c e (inl h) k = inl (h.0, ends_append style n ws vs ts us a b c e h.1 k)
ends_append style n (w ∷ ws) vs (x ∷ ts) us a b c e (inr h) k =
    let only = only_first b c (ap (λ (y : Bool). one_of y b) (sym h.0) ∙ e) in
    inr (only.1, h.1, all_append n.own.chain.frames ws vs ts us h.2 (none_sums style n vs us (subst (λ (y : Bool). AllEnd style n vs y us) only.0 k)))

pub two_end : (style : Integers) (n : Node Own) (v w : WordRead) (a b c : Bool) (x y : List ℕ) → one_of a b ≡ Some c → EndsAs style n v a x → EndsAs style n w b y → AllEnd style n (v ∷ w ∷ []) c (x ∷ y ∷ [])
two_end style n v w a b c x y e h k = ends_append style n (v ∷ []) (w ∷ []) (x ∷ []) (y ∷ []) a b c e (ends_one style n v a x h) (ends_one style n w b y k)

-- what comes of a call, where there is one
pub some_more : {X : Type 0} (o : Option X) (P Q : X → Type 0) → ((x : X) → P x → Q x) → IfSome o P → IfSome o Q
some_more None P Q f h = tt
some_more (Some x) P Q f h = f x h

pub some_both : {X : Type 0} (o : Option X) (P Q R : X → Type 0) → ((x : X) → P x → Q x → R x) → IfSome o P → IfSome o Q → IfSome o R
some_both None P Q R f h k = tt
some_both (Some x) P Q R f h k = f x h k
