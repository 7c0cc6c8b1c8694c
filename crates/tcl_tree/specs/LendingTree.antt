-- What a tree lends.
use Rattle.std.specs.Prelude.{◌≡◌, ℕ, Option, IsSome}
use Rattle.std.specs.Borrow.{LendsSo, MutBor, Fml}
use Rattle.tcl_frames.specs.Chain.{Chain}
use Rattle.tcl_frames.specs.contracts.frames.Frames.{the_row as frames_row}
use Rattle.tcl_interpreter.specs.Paths.{Path}
use Rattle.tcl_tree.specs.Changes.{Rewrites}
use Rattle.tcl_tree.specs.Gone.{held_of}
use Rattle.tcl_tree.specs.TreeOf.{tree_of, key_of, marks_of, Names}
use Rattle.tcl_tree.specs.declared.tree.Tree.{Tree}
use Rattle.tcl_tree.specs.declared.tree.Place.{Place}
use Rattle.tcl_tree.specs.contracts.tree.Tree.{the_row}

-- the same interpreters, with the same keys, and the same besides
pub record IsAsBefore (old new : Tree) : Type 0 where
  pub tree : tree_of new ≡ tree_of old
  pub keys : (q : Path) → key_of new q ≡ key_of old q
  pub held : (k : ℕ) → held_of new k ≡ held_of old k
  pub marks : marks_of new ≡ marks_of old

-- the interpreter at p has these frames, and nothing else changed
pub record HasFrames (old new : Tree) (p : Path) (chain : Chain) : Type 0 where
  pub tree : Rewrites (tree_of old) (tree_of new) p (λ own. record own { chain = chain })
  pub keys : (q : Path) → key_of new q ≡ key_of old q
  pub held : (k : ℕ) → held_of new k ≡ held_of old k
  pub marks : marks_of new ≡ marks_of old

-- Once the borrow ends, the interpreter at the path has the frames that were left; at `None` the
-- tree is as it was.
abbrev pub LendsFramesOf : MutBor Tree → Path → Option (MutBor Chain) → Fml
LendsFramesOf s p r = LendsSo the_row frames_row s r (λ n w. IsSome r → HasFrames s.now n p w)
    (λ n. IsAsBefore s.now n)

-- the same at each path of a place
abbrev pub LendsFramesIn : MutBor Tree → Place → Option (MutBor Chain) → Fml
LendsFramesIn s place r = LendsSo the_row frames_row s r
    (λ n w. IsSome r → (p : Path) → Names s.now place p → HasFrames s.now n p w)
    (λ n. IsAsBefore s.now n)
