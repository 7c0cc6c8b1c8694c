-- Whether an interpreter was dropped.
use Rattle.std.proofs.Common.{◌≡◌, Bool, true, false, List, [], ◌∷◌, ◌++◌, Option, Some, None, refl, sym, ◌∙◌, ap}
use Rattle.tcl_core.specs.Laws.{IsSpared, Spares}
use Rattle.tcl_core.specs.Paths.{Path, Place, strip}
use Rattle.tcl_core.specs.Programs.{either}
use Rattle.tcl_core.specs.Trees.{Event, What}
use Rattle.tcl_core.specs.Trees.What.{Dropped}
use Rattle.tcl_tree.specs.Own.{Own}
use Rattle.tcl_core.specs.Execution.{event}
use Rattle.tcl_recorder.specs.Laws.{UpToTheDrop}
use Rattle.tcl_recorder.specs.Recording.{drops_at, fallen_after, falls, while_there}

pub fate_parts : (b : Bool) (c : Place) (σ τ : List (Event Own)) → fallen_after b c (σ ++ τ) ≡ fallen_after (fallen_after b c σ) c τ
fate_parts b c [] τ = refl
fate_parts b c (ev ∷ σ) τ = fate_parts (either (falls c ev) b) c σ τ

-- what was dropped stays so
pub either_true : (a : Bool) → either a true ≡ true
either_true true = refl
either_true false = refl

pub dropped : (c : Place) (τ : List (Event Own)) → fallen_after true c τ ≡ true
dropped c [] = refl
dropped c (ev ∷ τ) = ap (λ b. fallen_after b c τ) (either_true (falls c ev)) ∙ dropped c τ

pub or_not : (a : Bool) → either a false ≡ a
or_not true = refl
or_not false = refl

-- it falls by nothing just where that spares it
not_dropped : (o : Option Path) → drops_at Dropped o ≡ false → o ≡ None
not_dropped None e = refl
not_dropped (Some q) e = cc

spares : (c p : Place) (x : What Own) → drops_at x (strip p c) ≡ false → Spares c p x
spares c p Dropped e = not_dropped (strip p c) e
spares c p _ e = tt

told : (c p : Place) (x : What Own) → Spares c p x → drops_at x (strip p c) ≡ false
told c p Dropped e = ap (drops_at Dropped) e
told c p _ e = refl

spared_by : (c : Place) (τ : List (Event Own)) (b : Bool) → fallen_after (either b false) c τ ≡ false → (fallen_after false c τ ≡ false → IsSpared c τ) → (b ≡ false) × IsSpared c τ
spared_by c τ false e f = (refl, f e)
spared_by c τ true e f = let all : fallen_after true c τ ≡ true = dropped c τ in absurd cc

pub spared : (c : Place) (τ : List (Event Own)) → fallen_after false c τ ≡ false → IsSpared c τ
spared c [] e = tt
spared c (ev ∷ τ) e =
    let h = spared_by c τ (falls c ev) e (spared c τ) in
    (spares c ev.place ev.what h.0, h.1)

pub stands : (c : Place) (τ : List (Event Own)) → IsSpared c τ → fallen_after false c τ ≡ false
stands c [] f = refl
stands c (ev ∷ τ) f = ap (λ b. fallen_after (either b false) c τ) (told c ev.place ev.what f.0) ∙ stands c τ f.1

-- ## What happens while it is there

pub there_over : (c : Place) (τ : List (Event Own)) → while_there true c τ ≡ []
there_over c τ = refl

pub there_spared : (c : Place) (τ : List (Event Own)) → IsSpared c τ → while_there false c τ ≡ τ
there_spared c [] f = refl
there_spared c (ev ∷ τ) f = ap (λ b. ev ∷ while_there b c τ) (told c ev.place ev.what f.0) ∙ ap (λ l. ev ∷ l) (there_spared c τ f.1)

there_dropped : (c d z : Place) (σ τ : List (Event Own)) → IsSpared c σ → strip d c ≡ Some z → while_there false c (σ ++ event d Dropped ∷ τ) ≡ σ ++ event d Dropped ∷ []
there_dropped c d z [] τ f e = ap (λ o. event d Dropped ∷ while_there (drops_at Dropped o) c τ) e
there_dropped c d z (ev ∷ σ) τ f e = ap (λ b. ev ∷ while_there b c (σ ++ event d Dropped ∷ τ)) (told c ev.place ev.what f.0) ∙ ap (λ l. ev ∷ l) (there_dropped c d z σ τ f.1 e)

pub up_to_the_drop : UpToTheDrop
up_to_the_drop = record { spared = there_spared; dropped = there_dropped; over = there_over }

-- it is told in order
pub there_parts : (b : Bool) (c : Place) (σ τ : List (Event Own)) → while_there b c (σ ++ τ) ≡ while_there b c σ ++ while_there (fallen_after b c σ) c τ
there_parts true c σ τ = sym (ap (λ b. while_there b c τ) (dropped c σ))
there_parts false c [] τ = refl
there_parts false c (ev ∷ σ) τ = ap (λ l. ev ∷ l) (there_parts (falls c ev) c σ τ ∙ ap (λ b. while_there (falls c ev) c σ ++ while_there (fallen_after b c σ) c τ) (sym (or_not (falls c ev))))

-- ## Where it is dropped

-- the first of these by which it is dropped, or one above it
pub record FirstDrop (c : Place) (τ : List (Event Own)) : Type 0 where
  pub first : List (Event Own)
  pub dropped : Place
  pub below : Path
  pub last : List (Event Own)
  pub parts : τ ≡ first ++ event dropped Dropped ∷ last
  pub falls : strip dropped c ≡ Some below
  pub spared : IsSpared c first

falls_by : (c p : Place) (x : What Own) → drops_at x (strip p c) ≡ true → (z : Path) × (strip p c ≡ Some z) × (event p x ≡ event p Dropped)
falls_by c p Dropped e = by (strip p c) refl
  where
    by : (o : Option Path) → strip p c ≡ o → (z : Path) × (strip p c ≡ Some z) × (event {O = Own} p Dropped ≡ event p Dropped)
    by (Some z) f = (z, f, refl)
    by None f = let clash : false ≡ true = sym (ap (drops_at Dropped) f) ∙ e in absurd cc
falls_by c p x e = let clash : false ≡ true = e in absurd cc

pub first_drop : (c : Place) (τ : List (Event Own)) → fallen_after false c τ ≡ true → FirstDrop c τ
first_drop c [] e = let clash : false ≡ true = e in absurd cc
first_drop c (ev ∷ τ) e = by (falls c ev) refl (λ g. first_drop c τ g)
  where
    by : (b : Bool) → falls c ev ≡ b → (fallen_after false c τ ≡ true → FirstDrop c τ) → FirstDrop c (ev ∷ τ)
    by true f next =
        let g = falls_by c ev.place ev.what f in
        record { first = []; dropped = ev.place; below = g.0; last = τ; parts = ap (λ x. x ∷ τ) g.2; falls = g.1; spared = tt }
    by false f next =
        let later : FirstDrop c τ = next (sym (ap (λ b. fallen_after (either b false) c τ) f) ∙ e) in
        record {
          first = ev ∷ later.first;
          dropped = later.dropped;
          below = later.below;
          last = later.last;
          parts = ap (λ l. ev ∷ l) later.parts;
          falls = later.falls;
          spared = (spares c ev.place ev.what f, later.spared);
        }

-- what is recorded up to there
pub there_drop : (c : Place) (τ : List (Event Own)) (d : FirstDrop c τ) → while_there false c τ ≡ d.first ++ event d.dropped Dropped ∷ []
there_drop c τ d = ap (while_there false c) d.parts ∙ there_dropped c d.dropped d.below d.first d.last d.spared d.falls
