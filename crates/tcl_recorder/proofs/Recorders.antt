-- What a recorder's calls come to.
use Rattle.std.proofs.Common.{◌≡◌, ℕ, Bool, true, false, List, [], ◌∷◌, ◌++◌, Option, Some, None, length, refl, sym, ◌∙◌, ap, subst}
use Rattle.std.specs.Prelude.{OnOk, Result, Ok, Err}
use Rattle.std.specs.Result.{is_err}
use Rattle.tcl_core.specs.Endings.{Completion, Reply}
use Rattle.tcl_core.specs.Endings.Reply.{Completed}
use Rattle.tcl_core.specs.Endings.Meter.{Count}
use Rattle.tcl_core.specs.Entries.{Answer, Entry}
use Rattle.tcl_core.specs.Entries.Answer.{Replied}
use Rattle.tcl_core.specs.Paths.{Path, Height, rise_to}
use Rattle.tcl_core.specs.Programs.{Wait, either}
use Rattle.tcl_core.specs.Runs.{carried, gone as lost}
use Rattle.tcl_core.specs.Execution.{event}
use Rattle.tcl_core.specs.Trees.{Event, Tree, What}
use Rattle.tcl_core.specs.Trees.What.{Charged, Refused, Dropped, Out, In, Done, Back, Unfound}
use Rattle.tcl_run.proofs.Endings.{IfEnded-both, IfEnded-more, Interrupts-more}
use Rattle.tcl_run.proofs.Losing.{lost_once}
use Rattle.tcl_run.specs.Ends.{IfEnded, WhereMemory}
use Rattle.tcl_run.specs.Entering.{whole_entry}
use Rattle.tcl_run.specs.Notifying.{Notified, WasUnfound}
use Rattle.tcl_run.specs.Outsides.{AnswersFor, ComesNext, Enters, Going, Misses, OnEntry, Returns, told_to}
use Rattle.tcl_run.specs.Runs.{IsLoss}
use Rattle.tcl_run.specs.declared.interruption.Interruption.{Interruption}
use Rattle.tcl_run.specs.declared.interruption.Interruption.TheVariants as interruption
use Rattle.tcl_run.specs.declared.outside.Happening.{Happening}
use Rattle.tcl_run.specs.declared.outside.Happening.TheVariants as happening
use Rattle.tcl_run.specs.declared.outside.Turn.{Turn}
use Rattle.tcl_run.specs.declared.outside.Turn.TheVariants as turn
use Rattle.tcl_tree.specs.Gone.{Holds}
use Rattle.tcl_tree.specs.Own.{Own}
use Rattle.tcl_tree.specs.TreeOf.{Names, tree_of}
use Rattle.tcl_tree.specs.declared.tree.Tree.{Tree as Table}
use Rattle.tcl_recorder.specs.Laws.{IsNoCrossing}
use Rattle.tcl_recorder.specs.Recording.{HasCome, IsLeft, Keeps, Records, Turns, after, crossed, falls, met, met_by, noted_of, recorded}
use Rattle.tcl_recorder.specs.declared.recorder.Recorder.{Recorder}
use Rattle.tcl_recorder.proofs.Fates.{either_true}
use Rattle.tcl_recorder.proofs.Notes.{after_none, unchanged}

-- whether the watched interpreter is dropped with another one, by the path that is at hand
pub fate_watched : (c q p : Path) (b d e : Bool) → q ≡ p → b ≡ falls c (event q Dropped) → b ≡ true → e ≡ true → e ≡ either (falls c (event p Dropped)) d
fate_watched c q p b d e same asked is so =
    let falls_so : falls c (event p Dropped) ≡ true = ap (λ (r : Path). falls c (event r Dropped)) (sym same) ∙ sym asked ∙ is in
    so ∙ sym (ap (λ x. either x d) falls_so)

pub fate_another : (c q p : Path) (b d e : Bool) → q ≡ p → b ≡ falls c (event q Dropped) → b ≡ false → e ≡ d → e ≡ either (falls c (event p Dropped)) d
fate_another c q p b d e same asked is so =
    let stands : falls c (event p Dropped) ≡ false = ap (λ (r : Path). falls c (event r Dropped)) (sym same) ∙ sym asked ∙ is in
    so ∙ sym (ap (λ x. either x d) stands)

module _ {S : Type 0} (goes : Going S) where
  -- the same recorder, where what it holds went on
  abbrev pub moved : Recorder S → S → Recorder S
  moved o u = record { outside = u; kept = o.kept; deleted = o.deleted; incomplete = o.incomplete }

  -- ## What one happening adds

  -- it itself, where the watched interpreter is there
  pub noting : (o : Recorder S) (T : Tree Own) (ev : Event Own) → o.deleted ≡ false → met T ev ≡ ev ∷ [] → crossed o.kept ev ≡ after o.kept (noted_of o.deleted T ev)
  noting o T ev there e = sym (ap (λ b. after o.kept (noted_of b T ev)) there ∙ ap (after o.kept) e)

  -- nothing, where it was dropped
  unnoted : (o : Recorder S) (T : Tree Own) (ev : Event Own) → o.deleted ≡ true → o.kept ≡ after o.kept (noted_of o.deleted T ev)
  unnoted o T ev gone = after_none o.kept ∙ sym (ap (λ b. after o.kept (noted_of b T ev)) gone)

  -- nor anything where it is no crossing
  untouched : (o : Recorder S) (T : Tree Own) (ev : Event Own) → met T ev ≡ ev ∷ [] → IsNoCrossing ev.what → o.kept ≡ after o.kept (noted_of o.deleted T ev)
  untouched o T ev e f = by o.deleted
    where
      by : (b : Bool) → o.kept ≡ after o.kept (noted_of b T ev)
      by true = after_none o.kept
      by false = unchanged o.kept ev f ∙ sym (ap (after o.kept) e)

  -- ## Once it was dropped

  pub silent : (T : Tree Own) (o : Recorder S) (s : Wait) (ev : Event Own) (u : S) → o.deleted ≡ true → (IsLeft ev.what → o.incomplete ≡ false) → goes T o.outside s ev u → Records goes T o s ev (moved o u)
  silent T o s ev u gone ends g = record {
    outside = g;
    keeps = λ w. record {
      whole = w;
      kept = unnoted o T ev gone;
      fate = gone ∙ sym (ap (either (falls o.kept.watched ev)) gone ∙ either_true (falls o.kept.watched ev));
    };
    ends = ends;
  }

  silent_enters : (T : Tree Own) (o : Recorder S) (p : Path) (n : ℕ) (a down : Path) (i : Entry) (u : S) → o.deleted ≡ true → Enters goes T o.outside p n a down i u → Enters (recorded goes) T o p n a down i (moved o u)
  silent_enters T o p n a down i u gone g = record {
    between = moved o g.between;
    leaves = silent T o None (event p (Out (Some n) down i)) g.between gone (λ f. absurd f) g.leaves;
    enters = silent T (moved o g.between) None (event (a ++ down) (In (Some (length down)) i)) u gone (λ f. absurd f) g.enters;
  }

  silent_returns : (T : Tree Own) (o : Recorder S) (p : Path) (n : ℕ) (a down : Path) (s r : Reply) (u : S) → o.deleted ≡ true → Returns goes T o.outside p n a down s r u → Returns (recorded goes) T o p n a down s r (moved o u)
  silent_returns T o p n a down s r u gone g = record {
    between = moved o g.between;
    leaves = silent T o None (event (a ++ down) (Done (Some (length down)) s)) g.between gone (λ f. absurd f) g.leaves;
    returns = silent T (moved o g.between) None (event p (Back (Some n) (Replied r))) u gone (λ f. absurd f) g.returns;
  }

  silent_misses : (T : Tree Own) (o : Recorder S) (p : Path) (n : ℕ) (down : Path) (i : Entry) (r : Reply) (u : S) → o.deleted ≡ true → Misses goes T o.outside p n down i r u → Misses (recorded goes) T o p n down i r (moved o u)
  silent_misses T o p n down i r u gone g = record {
    between = moved o g.between;
    leaves = silent T o None (event p (Out (Some n) down i)) g.between gone (λ f. absurd f) g.leaves;
    returns = silent T (moved o g.between) None (event p (Back (Some n) (Replied r))) u gone (λ f. absurd f) g.returns;
  }

  silent_stray : (T : Tree Own) (o : Recorder S) (t : Path) (i : Entry) (r : Reply) (u : S) → o.deleted ≡ true → WasUnfound goes T o.outside t i r u → WasUnfound (recorded goes) T o t i r (moved o u)
  silent_stray T o t i r u gone g = λ c before e none k.
      let first : Event Own = event t (In None i) in
      let ev : Event Own = event [] (Unfound t i c) in
      record {
        outside = g c before.outside e none k.outside;
        keeps = λ w. (
            let b : Keeps T before first o = k.keeps w in
            let was : before.deleted ≡ true = sym b.fate ∙ gone in
            record {
              whole = b.whole;
              kept = b.kept ∙ ap (λ n. after before.kept (noted_of n T first)) was ∙ sym (ap (λ n. after before.kept (noted_of n T ev)) was);
              fate = b.fate;
            }
            );
        ends = λ f. absurd f;
      }

  pub silent_all : (hands_in : Type 0) (t : Table) (o : Recorder S) (w : Happening) (u : S) → o.deleted ≡ true → o.incomplete ≡ false → Notified goes hands_in t o.outside w u → Notified (recorded goes) hands_in t o w (moved o u)
  silent_all hands_in t o (happening.Dropped parent name) u gone whole g = λ T p at. silent T o None _ u gone (λ f. absurd f) (g T p at)
  silent_all hands_in t o (happening.Entered caller up down entry) u gone whole g = λ p a at e. silent_enters (tree_of t) o p up a down.now (whole_entry entry.now) u gone (g p a at e)
  silent_all hands_in t o (happening.Returned caller up down ended told) u gone whole g =
      let Inner : Reply → Reply → Type 0 = λ s r. (p a : Path) (d : ℕ) → Holds t caller p d → rise_to (Some up) p ≡ Some a → r ≡ carried (lost d (tree_of t) p) (Some up) p down.now s → Returns goes (tree_of t) o.outside p up a down.now s r u in
      let Outer : Reply → Reply → Type 0 = λ s r. (p a : Path) (d : ℕ) → Holds t caller p d → rise_to (Some up) p ≡ Some a → r ≡ carried (lost d (tree_of t) p) (Some up) p down.now s → Returns (recorded goes) (tree_of t) o p up a down.now s r (moved o u) in
      IfEnded-more ended.now (λ s. IfEnded told.now (Inner s)) (λ s. IfEnded told.now (Outer s))
      (λ s x. IfEnded-more told.now (Inner s) (Outer s) (λ r y p a d at e is. silent_returns (tree_of t) o p up a down.now s r u gone (y p a d at e is)) x) g
  silent_all hands_in t o (happening.Missed caller up down entry told) u gone whole g = IfEnded-more told.now
      (λ r. (p a : Path) → Names t caller p → rise_to (Some up) p ≡ Some a → Misses goes (tree_of t) o.outside p up down.now (whole_entry entry.now) r u)
      (λ r. (p a : Path) → Names t caller p → rise_to (Some up) p ≡ Some a → Misses (recorded goes) (tree_of t) o p up down.now (whole_entry entry.now) r (moved o u))
      (λ r y p a at e. silent_misses (tree_of t) o p up down.now (whole_entry entry.now) r u gone (y p a at e)) g
  silent_all hands_in t o (happening.PassedTop caller up down entry) u gone whole g = λ p at e. silent (tree_of t) o None _ u gone (λ f. absurd f) (g p at e)
  silent_all hands_in t o (happening.EntryDone target ended) u gone whole g = IfEnded-more ended.now
      (λ r. goes (tree_of t) o.outside None (event target.now (Done None r)) u) (λ r. Records goes (tree_of t) o None (event target.now (Done None r)) (moved o u))
      (λ r y. silent (tree_of t) o None (event target.now (Done None r)) u gone (λ f. whole) y) g
  silent_all hands_in t o (happening.ExitCameBack caller up entry status) u gone whole g = λ may p d at e. silent (tree_of t) o _ _ u gone (λ f. absurd f) (g may p d at e)
  silent_all hands_in t o (happening.Unfound target entry told) u gone whole g = λ may. IfEnded-more told.now
      (λ r. WasUnfound goes (tree_of t) o.outside target.now (whole_entry entry.now) r u) (λ r. WasUnfound (recorded goes) (tree_of t) o target.now (whole_entry entry.now) r (moved o u))
      (λ r y. silent_stray (tree_of t) o target.now (whole_entry entry.now) r u gone y) (g may)

  -- what comes next to an open call
  silent_answer : (T : Tree Own) (o : Recorder S) (p : Path) (d : ℕ) (h : Height) (i : Entry) (u : S) (a : Answer) → o.deleted ≡ true → AnswersFor goes T o.outside p d h i u a → AnswersFor (recorded goes) T o p d h i (moved o u) a
  silent_answer T o p d h i u a gone g = (silent T o (Some (h, i, d)) (event p (Back h (told_to (lost d T p) a))) u gone (λ f. absurd f) g.0, g.1)

  pub silent_next : (hands_in : Type 0) (T : Tree Own) (o : Recorder S) (p : Path) (d : ℕ) (h : Height) (i : Entry) (u : S) (t : Result Turn Interruption) → o.deleted ≡ true →
      ComesNext goes hands_in T o.outside p d h i u t → ComesNext (recorded goes) hands_in T o p d h i (moved o u) t
  silent_next hands_in T o p d h i u (Ok (turn.Entry target entry)) gone g = (silent T o None (event target.items (In None (whole_entry entry))) u gone (λ f. absurd f) g.0, g.1)
  silent_next hands_in T o p d h i u (Ok (turn.Completed text)) gone g = silent_answer T o p d h i u _ gone g
  silent_next hands_in T o p d h i u (Ok (turn.Heard reply)) gone g = silent_answer T o p d h i u _ gone g
  silent_next hands_in T o p d h i u (Ok turn.Nobody) gone g = silent_answer T o p d h i u _ gone g
  silent_next hands_in T o p d h i u (Err e) gone g = Interrupts-more e (λ r. AnswersFor goes T o.outside p d h i u (Replied r)) (λ r. AnswersFor (recorded goes) T o p d h i (moved o u) (Replied r)) (λ r x. silent_answer T o p d h i u (Replied r) gone x) g

  -- ## As long as it is there

  pub crosses : (T : Tree Own) (o z : Recorder S) (s : Wait) (q p : Path) (x : What Own) → q ≡ p → o.deleted ≡ false → met T (event p x) ≡ event p x ∷ [] → (z.incomplete ≡ false → o.incomplete ≡ false) → z.kept ≡ crossed o.kept (event q x) →
      z.deleted ≡ either (falls o.kept.watched (event p x)) o.deleted → (IsLeft x → z.incomplete ≡ false) → goes T o.outside s (event p x) z.outside → Records goes T o s (event p x) z
  crosses T o z s q p x same there comes whole e fate ends g = record {
    outside = g;
    keeps = λ w. record { whole = whole w; kept = subst (λ (r : Path). z.kept ≡ crossed o.kept (event r x)) same e ∙ noting o T (event p x) there comes; fate = fate };
    ends = ends;
  }

  -- a step that is made, or refused
  pub makes_step : (T : Tree Own) (o : Recorder S) (u : S) (p : Path) → goes T o.outside None (event p Charged) u → Records goes T o None (event p Charged) (record { outside = u; kept = o.kept; deleted = o.deleted; incomplete = o.incomplete })
  makes_step T o u p g = record { outside = g; keeps = λ w. record { whole = w; kept = untouched o T (event p Charged) refl tt; fate = refl }; ends = λ f. absurd f }

  pub refuses_step : (T : Tree Own) (o : Recorder S) (u : S) (p : Path) → goes T o.outside None (event p (Refused Count None)) u →
      Records goes T o None (event p (Refused Count None)) (record { outside = u; kept = o.kept; deleted = o.deleted; incomplete = o.incomplete })
  refuses_step T o u p g = record { outside = g; keeps = λ w. record { whole = w; kept = untouched o T (event p (Refused Count None)) refl tt; fate = refl }; ends = λ f. absurd f }

  -- an interpreter is dropped, and the watched one with it, or not
  pub drops : (T : Tree Own) (o z : Recorder S) (p : Path) → z.kept ≡ o.kept → z.incomplete ≡ o.incomplete → z.deleted ≡ either (falls o.kept.watched (event p Dropped)) o.deleted → goes T o.outside None (event p Dropped) z.outside →
      Records goes T o None (event p Dropped) z
  drops T o z p same as_whole fate g = record { outside = g; keeps = λ w. record { whole = sym as_whole ∙ w; kept = same ∙ untouched o T (event p Dropped) refl tt; fate = fate }; ends = λ f. absurd f }

  -- the recorder between two crossings
  abbrev between_at : S → Recorder S → Event Own → Recorder S
  between_at u o ev = record { outside = u; kept = crossed o.kept ev; deleted = o.deleted; incomplete = o.incomplete }

  pub enters : (T : Tree Own) (o z : Recorder S) (q p : Path) (n : ℕ) (a : Path) (down : Path) (i : Entry) → q ≡ p → o.deleted ≡ false → rise_to (Some n) p ≡ Some a →
      ((b : Path) → rise_to (Some n) q ≡ Some b → z.kept ≡ crossed (crossed o.kept (event q (Out (Some n) down i))) (event (b ++ down) (In (Some (length down)) i))) →
      z.deleted ≡ o.deleted → z.incomplete ≡ o.incomplete → Enters goes T o.outside p n a down i z.outside → Enters (recorded goes) T o p n a down i z
  enters T o z q p n a down i same there up e stays as_whole g = record {
    between = between_at g.between o (event p (Out (Some n) down i));
    leaves = record { outside = g.leaves; keeps = λ w. record { whole = w; kept = noting o T (event p (Out (Some n) down i)) there refl; fate = refl }; ends = λ f. absurd f };
    enters = record {
      outside = g.enters;
      keeps = λ w. record {
        whole = sym as_whole ∙ w;
        kept = subst (λ (r : Path). (b : Path) → rise_to (Some n) r ≡ Some b → z.kept ≡ crossed (crossed o.kept (event r (Out (Some n) down i))) (event (b ++ down) (In (Some (length down)) i))) same e a up
            ∙ noting (between_at g.between o (event p (Out (Some n) down i))) T (event (a ++ down) (In (Some (length down)) i)) there refl;
        fate = stays;
      };
      ends = λ f. absurd f;
    };
  }

  pub returns : (T : Tree Own) (o z : Recorder S) (q p : Path) (n : ℕ) (a : Path) (down : Path) (s r : Reply) → q ≡ p → o.deleted ≡ false → rise_to (Some n) p ≡ Some a →
      ((b : Path) → rise_to (Some n) q ≡ Some b → z.kept ≡ crossed (crossed o.kept (event (b ++ down) (Done (Some (length down)) s))) (event q (Back (Some n) (Replied r)))) →
      z.deleted ≡ o.deleted → z.incomplete ≡ o.incomplete → Returns goes T o.outside p n a down s r z.outside → Returns (recorded goes) T o p n a down s r z
  returns T o z q p n a down s r same there up e stays as_whole g = record {
    between = between_at g.between o (event (a ++ down) (Done (Some (length down)) s));
    leaves = record { outside = g.leaves; keeps = λ w. record { whole = w; kept = noting o T (event (a ++ down) (Done (Some (length down)) s)) there refl; fate = refl }; ends = λ f. absurd f };
    returns = record {
      outside = g.returns;
      keeps = λ w. record {
        whole = sym as_whole ∙ w;
        kept = subst (λ (w : Path). (b : Path) → rise_to (Some n) w ≡ Some b → z.kept ≡ crossed (crossed o.kept (event (b ++ down) (Done (Some (length down)) s))) (event w (Back (Some n) (Replied r)))) same e a up
            ∙ noting (between_at g.between o (event (a ++ down) (Done (Some (length down)) s))) T (event p (Back (Some n) (Replied r))) there refl;
        fate = stays;
      };
      ends = λ f. absurd f;
    };
  }

  pub misses : (T : Tree Own) (o z : Recorder S) (q p : Path) (n : ℕ) (down : Path) (i : Entry) (r : Reply) → q ≡ p → o.deleted ≡ false →
      z.kept ≡ crossed (crossed o.kept (event q (Out (Some n) down i))) (event q (Back (Some n) (Replied r))) →
      z.deleted ≡ o.deleted → z.incomplete ≡ o.incomplete → Misses goes T o.outside p n down i r z.outside → Misses (recorded goes) T o p n down i r z
  misses T o z q p n down i r same there e stays as_whole g = record {
    between = between_at g.between o (event p (Out (Some n) down i));
    leaves = record { outside = g.leaves; keeps = λ w. record { whole = w; kept = noting o T (event p (Out (Some n) down i)) there refl; fate = refl }; ends = λ f. absurd f };
    returns = record {
      outside = g.returns;
      keeps = λ w. record {
        whole = sym as_whole ∙ w;
        kept = subst (λ (w : Path). z.kept ≡ crossed (crossed o.kept (event w (Out (Some n) down i))) (event w (Back (Some n) (Replied r)))) same e
            ∙ noting (between_at g.between o (event p (Out (Some n) down i))) T (event p (Back (Some n) (Replied r))) there refl;
        fate = stays;
      };
      ends = λ f. absurd f;
    };
  }

  -- an entry found nobody
  stray : (T : Tree Own) (o z : Recorder S) (t : Path) (i : Entry) (r : Reply) → o.deleted ≡ false → o.incomplete ≡ false → z.deleted ≡ o.deleted →
      ((c : Completion) → r ≡ Completed c → z.kept ≡ crossed o.kept (event [] (Unfound t i c))) → WasUnfound goes T o.outside t i r z.outside → WasUnfound (recorded goes) T o t i r z
  stray T o z t i r there whole stays kept g = λ c before e none k.
      let first : Event Own = event t (In None i) in
      let ev : Event Own = event [] (Unfound t i c) in
      let b : Keeps T before first o = k.keeps whole in
      let was : before.deleted ≡ false = sym b.fate ∙ there in
      let unmet : met T first ≡ [] = ap (λ n. met_by (In None i) n t) none in
      let same : o.kept ≡ before.kept = b.kept ∙ ap (λ n. after before.kept (noted_of n T first)) was ∙ ap (after before.kept) unmet ∙ sym (after_none before.kept) in
      record {
        outside = g c before.outside e none k.outside;
        keeps = λ w. record { whole = b.whole; kept = kept c e ∙ ap (λ r. crossed r ev) same ∙ noting before T ev was refl; fate = stays ∙ b.fate };
        ends = λ f. absurd f;
      }

  pub strays : (hands_in : Type 0) (T : Tree Own) (o z : Recorder S) (t : Path) (i : Entry) (told : Result (List ℕ) Interruption) → o.deleted ≡ false → o.incomplete ≡ false → z.deleted ≡ o.deleted →
      IfEnded told (λ r. (c : Completion) → r ≡ Completed c → z.kept ≡ crossed o.kept (event [] (Unfound t i c))) → (hands_in → IfEnded told (λ r. WasUnfound goes T o.outside t i r z.outside)) →
      hands_in → IfEnded told (λ r. WasUnfound (recorded goes) T o t i r z)
  strays hands_in T o z t i told there whole stays kept g may =
      let Kept : Reply → Type 0 = λ r. (c : Completion) → r ≡ Completed c → z.kept ≡ crossed o.kept (event [] (Unfound t i c)) in
      let Goes : Reply → Type 0 = λ r. WasUnfound goes T o.outside t i r z.outside in
      let Both : Reply → Type 0 = λ r. WasUnfound (recorded goes) T o t i r z in
      IfEnded-both told Kept Goes Both (λ r k x. stray T o z t i r there whole stays k x) kept (g may)

  -- what comes next to an open call: it is recorded where nothing is missing afterwards
  answer_at : (T : Tree Own) (o z : Recorder S) (p : Path) (d : ℕ) (h : Height) (i : Entry) (a : Answer) → o.deleted ≡ false → o.incomplete ≡ false → (z.incomplete ≡ false → HasCome o.kept p (lost d T p) h a z.kept) → z.deleted ≡ o.deleted →
      AnswersFor goes T o.outside p d h i z.outside a → AnswersFor (recorded goes) T o p d h i z a
  answer_at T o z p d h i a there whole e stays g =
      let ev : Event Own = event p (Back h (told_to (lost d T p) a)) in
      (record { outside = g.0; keeps = λ w. record { whole = whole; kept = e w ∙ noting o T ev there refl; fate = stays }; ends = λ f. absurd f }, g.1)

  comes_at : (hands_in : Type 0) (T : Tree Own) (o z : Recorder S) (p : Path) (d : ℕ) (h : Height) (i : Entry) (t : Result Turn Interruption) → o.deleted ≡ false → o.incomplete ≡ false →
      (z.incomplete ≡ false → Turns o.kept T p (lost d T p) h t z.kept) → z.deleted ≡ o.deleted → ComesNext goes hands_in T o.outside p d h i z.outside t → ComesNext (recorded goes) hands_in T o p d h i z t
  comes_at hands_in T o z p d h i (Ok (turn.Entry target entry)) there whole e stays g =
      let ev : Event Own = event target.items (In None (whole_entry entry)) in
      (record { outside = g.0; keeps = λ w. record { whole = whole; kept = e w ∙ sym (ap (λ b. after o.kept (noted_of b T ev)) there); fate = stays }; ends = λ f. absurd f }, g.1)
  comes_at hands_in T o z p d h i (Ok (turn.Completed text)) there whole e stays g = answer_at T o z p d h i _ there whole e stays g
  comes_at hands_in T o z p d h i (Ok (turn.Heard reply)) there whole e stays g = answer_at T o z p d h i _ there whole e stays g
  comes_at hands_in T o z p d h i (Ok turn.Nobody) there whole e stays g = answer_at T o z p d h i _ there whole e stays g
  comes_at hands_in T o z p d h i (Err interruption.Memory) there whole e stays g = tt
  comes_at hands_in T o z p d h i (Err (interruption.Completed c)) there whole e stays g = answer_at T o z p d h i _ there whole e stays g
  comes_at hands_in T o z p d h i (Err (interruption.Stopped s)) there whole e stays g = answer_at T o z p d h i _ there whole e stays g
  comes_at hands_in T o z p d h i (Err (interruption.Exited n)) there whole e stays g = answer_at T o z p d h i _ there whole e stays g
  comes_at hands_in T o z p d h i (Err (interruption.Cut c)) there whole e stays g = answer_at T o z p d h i _ there whole e stays g

  pub comes : (hands_in : Type 0) (T : Tree Own) (o z : Recorder S) (q p : Path) (l : Option ℕ) (d : ℕ) (h : Height) (i : Entry) (t : Result Turn Interruption) → q ≡ p → l ≡ lost d T p → o.deleted ≡ false → o.incomplete ≡ false →
      (z.incomplete ≡ false → Turns o.kept T q l h t z.kept) → z.deleted ≡ o.deleted → ComesNext goes hands_in T o.outside p d h i z.outside t → ComesNext (recorded goes) hands_in T o p d h i z t
  comes hands_in T o z q p l d h i t same so there whole e stays g =
      comes_at hands_in T o z p d h i t there whole (subst (λ (x : Option ℕ). z.incomplete ≡ false → Turns o.kept T p x h t z.kept) so (subst (λ (r : Path). z.incomplete ≡ false → Turns o.kept T r l h t z.kept) same e)) stays g

  -- an entry from outside is done
  pub leaves : (T : Tree Own) (o z : Recorder S) (p : Path) (ended : Result (List ℕ) Interruption) → o.deleted ≡ false → o.incomplete ≡ false → z.incomplete ≡ o.incomplete → z.deleted ≡ o.deleted → IfEnded ended (λ r. z.kept ≡ crossed o.kept (event p (Done None r))) →
      IfEnded ended (λ r. goes T o.outside None (event p (Done None r)) z.outside) → IfEnded ended (λ r. Records goes T o None (event p (Done None r)) z)
  leaves T o z p ended there whole as_whole stays kept told =
      let Kept : Reply → Type 0 = λ r. z.kept ≡ crossed o.kept (event p (Done None r)) in
      let Goes : Reply → Type 0 = λ r. goes T o.outside None (event p (Done None r)) z.outside in
      let Both : Reply → Type 0 = λ r. Records goes T o None (event p (Done None r)) z in
      IfEnded-both ended Kept Goes Both (λ r k g. record { outside = g; keeps = λ w. record { whole = whole; kept = k ∙ noting o T (event p (Done None r)) there refl; fate = stays }; ends = λ f. as_whole ∙ whole }) kept told

-- what was noted is so where nothing was missed
pub noted_so : {A E P : Type 0} (r : Result A E) (b : Bool) → b ≡ is_err r → OnOk r P → b ≡ false → P
noted_so (Ok a) b e p f = p
noted_so (Err x) b e p f = let clash : true ≡ false = sym e ∙ f in absurd cc

-- and where it hands in an entry
pub lost_entry : {S : Type 0} (loses : S → S → Type 0) (r : Result Turn Interruption) (o z : S) → OnEntry r (loses o z) → OnEntry r (IsLoss loses o z)
lost_entry loses (Ok (turn.Entry target entry)) o z l = lost_once l
lost_entry loses (Ok (turn.Completed text)) o z l = tt
lost_entry loses (Ok (turn.Heard reply)) o z l = tt
lost_entry loses (Ok turn.Nobody) o z l = tt
lost_entry loses (Err e) o z l = tt

-- what holds anyway
pub where_memory : {A P : Type 0} (r : Result A Interruption) → P → WhereMemory r P
where_memory (Ok a) p = tt
where_memory (Err interruption.Memory) p = p
where_memory (Err (interruption.Completed c)) p = tt
where_memory (Err (interruption.Stopped s)) p = tt
where_memory (Err (interruption.Exited n)) p = tt
where_memory (Err (interruption.Cut c)) p = tt

-- nothing is said of what is given up
pub unspoken : {A : Type 0} (r : Result A Interruption) → WhereMemory r (Unit {0})
unspoken r = where_memory r tt
