-- Entries that set no alias are handed in as they are.
use Rattle.std.proofs.Common.{◌≡◌, refl}
use Rattle.tcl_core.specs.Paths.{Path, Text}
use Rattle.tcl_functions.specs.Handing.{handed}
use Rattle.tcl_interpreter.specs.Commands.{AliasView}
use Rattle.tcl_run.specs.Entering.{entry_of, whole_entry}
use Rattle.tcl_run.specs.declared.entry.Entry.{Entry as CodeEntry}
use Rattle.tcl_run.specs.declared.entry.Entry.TheVariants as entry
use Rattle.tcl_run.specs.declared.entry.OwnEntry.{OwnEntry}
use Rattle.tcl_run.specs.declared.entry.OwnEntry.TheVariants as own

pub kept_own : (t : Path) (i : OwnEntry) → ((name : Text) (alias : AliasView) → i ≡ own.SetAlias name alias → Prim.⊥) → entry_of i ≡ handed t (entry_of i)
kept_own t (own.SetAlias name alias) other = absurd (other name alias refl)
kept_own t (own.ClearAlias name) other = refl
kept_own t (own.Hide name hidden) other = refl
kept_own t (own.Expose hidden name) other = refl
kept_own t (own.SetCountLimit limit) other = refl
kept_own t (own.SetDepthLimit limit) other = refl
kept_own t (own.Create name safe) other = refl
kept_own t (own.Delete name) other = refl
kept_own t (own.Ask q) other = refl

pub kept : (t : Path) (i : CodeEntry) → ((o : OwnEntry) → i ≡ entry.Own o → Prim.⊥) → whole_entry i ≡ handed t (whole_entry i)
kept t (entry.Own o) other = absurd (other o refl)
kept t (entry.Eval script) other = refl
kept t (entry.CallWords words) other = refl
kept t (entry.InvokeHidden is_global words) other = refl
kept t (entry.AskHost request) other = refl
