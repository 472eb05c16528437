-- Each gas that a record has is sound, and its tally has room. The first four are always there.
use borrow.Author.Rules.{rules}
use mathlib.Core.Path.{refl, sym, ◌∙◌}
use Rattle.refusal.specs.declared.Gas.TheVariants.{HC, CO, NOx, CO2, NMHC}
use Rattle.lot.proofs.with_record.Goals as goal

pub added-requires : goal.added-requires
added-requires c =
    let hc = c.requires.0 HC refl in
    let co = c.requires.0 CO refl in
    let nox = c.requires.0 NOx refl in
    let co2 = c.requires.0 CO2 refl in
    let hc-room = c.requires.1 HC in
    let co-room = c.requires.1 CO in
    let nox-room = c.requires.1 NOx in
    let co2-room = c.requires.1 CO2 in
    let nmhc-room = c.requires.1 NMHC in
    (search rules, search rules)

pub added-requires-2 : goal.added-requires-2
added-requires-2 c =
    let hc = c.requires.0 HC refl in
    let co = c.requires.0 CO refl in
    let nox = c.requires.0 NOx refl in
    let co2 = c.requires.0 CO2 refl in
    let hc-room = c.requires.1 HC in
    let co-room = c.requires.1 CO in
    let nox-room = c.requires.1 NOx in
    let co2-room = c.requires.1 CO2 in
    let nmhc-room = c.requires.1 NMHC in
    (search rules, search rules)

pub added-requires-3 : goal.added-requires-3
added-requires-3 c =
    let hc = c.requires.0 HC refl in
    let co = c.requires.0 CO refl in
    let nox = c.requires.0 NOx refl in
    let co2 = c.requires.0 CO2 refl in
    let hc-room = c.requires.1 HC in
    let co-room = c.requires.1 CO in
    let nox-room = c.requires.1 NOx in
    let co2-room = c.requires.1 CO2 in
    let nmhc-room = c.requires.1 NMHC in
    (search rules, search rules)

pub added-requires-4 : goal.added-requires-4
added-requires-4 c =
    let hc = c.requires.0 HC refl in
    let co = c.requires.0 CO refl in
    let nox = c.requires.0 NOx refl in
    let co2 = c.requires.0 CO2 refl in
    let hc-room = c.requires.1 HC in
    let co-room = c.requires.1 CO in
    let nox-room = c.requires.1 NOx in
    let co2-room = c.requires.1 CO2 in
    let nmhc-room = c.requires.1 NMHC in
    (search rules, search rules)

pub added_if-requires : goal.added_if-requires
added_if-requires c = ((λ e. c.requires.0 NMHC (sym c.has_nmhc.ensures ∙ e)), c.requires.1 NMHC)
