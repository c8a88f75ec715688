-- How the values of a unit are told apart.
use Rattle.std.specs.Prelude.{◌≡◌, ℕ, zero, suc, Bool, List, []}
use Rattle.std.specs.Coded.{Coded, code_by, coded×, coded_ℕ, coded_bool, coded_list}
use Rattle.std.proofs.Common.{refl}
use Rattle.mb_pfu.specs.declared.parts.Slot.{Slot}
use Rattle.mb_pfu.specs.declared.parts.Slot.TheVariants.{Free, Ready, Paused, Waiting, Ended}
use Rattle.mb_pfu.specs.declared.parts.Watch.{Watch}
use Rattle.mb_pfu.specs.Rows.{SlotRow, row}
use Rattle.mb_pfu.specs.Tree.{Tree, spelled, tree_of}
use Rattle.mb_pfu.specs.Spells.{tree_of-spelled}
use Rattle.mb_pfu.specs.Unit.{State}

abbrev Parts : Type 0
Parts = ℕ × (ℕ × (ℕ × ℕ))

abbrev slot_parts : Slot → Parts
slot_parts Free = (0, (0, (0, 0)))
slot_parts (Ready place) = (1, (place, (0, 0)))
slot_parts (Paused place) = (2, (place, (0, 0)))
slot_parts (Waiting at lo count) = (3, (at, (lo, count)))
slot_parts Ended = (4, (0, (0, 0)))

abbrev slot_with : ℕ → ℕ → ℕ → ℕ → Slot
slot_with zero a b c = Free
slot_with (suc zero) a b c = Ready a
slot_with (suc (suc zero)) a b c = Paused a
slot_with (suc (suc (suc zero))) a b c = Waiting a b c
slot_with (suc (suc (suc (suc n)))) a b c = Ended

abbrev slot_from : Parts → Slot
slot_from p = slot_with p.0 p.1.0 p.1.1.0 p.1.1.1

pub slot_from-parts : (s : Slot) → slot_from (slot_parts s) ≡ s
slot_from-parts Free = refl
slot_from-parts (Ready place) = refl
slot_from-parts (Paused place) = refl
slot_from-parts (Waiting at lo count) = refl
slot_from-parts Ended = refl

abbrev pub slot_code : Coded Slot
slot_code = code_by Parts (coded× coded_ℕ (coded× coded_ℕ (coded× coded_ℕ coded_ℕ))) slot_parts slot_from slot_from-parts

abbrev WatchParts : Type 0
WatchParts = ℕ × (Bool × (ℕ × (ℕ × (Bool × (Bool × Bool)))))

abbrev pub watch_code : Coded Watch
watch_code =
    code_by WatchParts (coded× coded_ℕ (coded× coded_bool (coded× coded_ℕ (coded× coded_ℕ (coded× coded_bool (coded× coded_bool coded_bool))))))
    (λ l. (l.entry.number, (l.entry.weak, (l.entry.cond, (l.entry.handler, (l.entry.aged, (l.entry.fired, l.due)))))))
    (λ p. record { entry = record { number = p.0; weak = p.1.0; cond = p.1.1.0; handler = p.1.1.1.0; aged = p.1.1.1.1.0; fired = p.1.1.1.1.1.0 }; due = p.1.1.1.1.1.1 })
    (λ _. refl)

abbrev RowParts : Type 0
RowParts = ℕ × (ℕ × (Slot × List Watch))

abbrev pub row_code : Coded SlotRow
row_code =
    code_by RowParts (coded× coded_ℕ (coded× coded_ℕ (coded× slot_code (coded_list watch_code))))
    (λ r. (r.slot, (r.level, (r.state, r.watches)))) (λ p. row p.0 p.1.0 p.1.1.0 p.1.1.1) (λ _. refl)

abbrev pub tree_code : Coded Tree
tree_code = code_by (List SlotRow) (coded_list row_code) (λ t. spelled 0 0 t []) tree_of tree_of-spelled

abbrev StateParts : Type 0
StateParts = ℕ × (Tree × (List ℕ × List ℕ))

abbrev pub state_code : Coded State
state_code =
    code_by StateParts (coded× coded_ℕ (coded× tree_code (coded× (coded_list coded_ℕ) (coded_list coded_ℕ))))
    (λ s. (s.slots, (s.tree, (s.links, s.counters)))) (λ p. record { slots = p.0; tree = p.1.0; links = p.1.1.0; counters = p.1.1.1 }) (λ _. refl)
