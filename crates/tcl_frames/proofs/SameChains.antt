-- Chains that are equal where their frames are, and what is set aside.
use Rattle.std.proofs.Common.{◌≡◌, List, reverse, sym, ◌∙◌, ap}
use Rattle.std.proofs.lemmas.List.{reverse-reverse}
use Rattle.tcl_frames.specs.Places.{Levels}
use Rattle.tcl_frames.specs.Chain.{Aside, Chain}
use Rattle.tcl_frames.proofs.ChainLemmas.{chain}

back : (xs ys : List Aside) → reverse xs ≡ reverse ys → xs ≡ ys
back xs ys e = sym (reverse-reverse xs) ∙ ap reverse e ∙ reverse-reverse ys

pub same_chains : {P : Type 0} (fs gs : Levels) (xs ys us vs : List Aside) (c d : Chain) → chain fs (reverse xs) ≡ c → chain gs (reverse ys) ≡ d
    → fs ≡ gs → us ≡ xs → vs ≡ ys → (P → us ≡ vs) × (us ≡ vs → P) → (P → c ≡ d) × (c ≡ d → P)
same_chains fs gs xs ys us vs c d e f same u v h = (
  λ p. sym e
      ∙ ap (λ z. chain z (reverse xs)) same
      ∙ ap (λ z. chain gs (reverse z)) (sym u ∙ h.0 p ∙ v)
      ∙ f,
  λ q. h.1 (u ∙ back xs ys (ap (λ (z : Chain). z.aside) (e ∙ q ∙ sym f)) ∙ sym v),
)
