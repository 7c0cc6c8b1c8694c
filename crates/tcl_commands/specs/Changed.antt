-- What changing what a variable holds comes to.
use Rattle.std.specs.Prelude.{◌≡◌, Bool, Result, Ok, Err, MatchResult}
use Rattle.std.specs.Option.{option_copied}
use Rattle.tcl_core.specs.Endings.{Completion}
use Rattle.tcl_core.specs.Endings.Reply.{Completed}
use Rattle.tcl_core.specs.Paths.{Text}
use Rattle.tcl_dicts.specs.Changing.{append_of, incr_of, lappend_of, set_of, unset_of}
use Rattle.tcl_frames.specs.Chain.{Chain, read}
use Rattle.tcl_language.specs.Changes.{or_empty}
use Rattle.tcl_lists.specs.Changing.{lset_of}
use Rattle.tcl_run.specs.Ends.{Interrupts}
use Rattle.tcl_run.specs.declared.interruption.Interruption.{Interruption}
use Rattle.tcl_words.specs.Outcomes.{Outcome}
use Rattle.tcl_commands.specs.Growing.{Growth, Grown, grown_from, growth_of}
use Rattle.tcl_commands.specs.declared.changing.Change.{Change}
use Rattle.tcl_commands.specs.declared.changing.Change.TheVariants.{Element, Key, NoKey, Sum}
use Rattle.tcl_commands.specs.declared.changing.Change.TheVariants.{Texts, Elements}

-- what a change makes of a text
abbrev pub changed_by : Change → Text → Outcome
changed_by (Element style indexes new) old = lset_of style old indexes.now new.now
changed_by (Key keys new) old = set_of old keys.now new.now
changed_by (NoKey path key) old = unset_of old path.now key.now
changed_by (Sum style key by) old = incr_of style old key.now (option_copied by)
changed_by (Texts key words) old = append_of old key.now words.now
changed_by (Elements key words) old = lappend_of old key.now words.now

abbrev pub altered : Change → Text → Growth
altered change old = growth_of (changed_by change old)

-- a variable is changed; where there is none, and the change makes one, from the empty text
abbrev pub changed : Bool → Chain → Text → (Text → Growth) → Grown
changed makes chain name change =
    grown_from chain name change (or_empty makes (read chain.frames name))

-- what a call returned and left of the chain is that, unless memory ran out
abbrev pub Alters : Bool → Chain → Text → (Text → Growth) → Chain → Result Text Interruption →
    Type 0
Alters makes old name change new result =
    MatchResult result (λ text. changed makes old name change ≡ Ok (text, new))
    (λ i. Interrupts i (λ e. (c : Completion) × (new ≡ old) ×
    (changed makes old name change ≡ Err c) × (e ≡ Completed c)))
