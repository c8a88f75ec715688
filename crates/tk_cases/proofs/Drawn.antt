-- Certificates for small images, each with the first demand that fails, as a model that was written apart gave it.
use Rattle.std.proofs.Common.{◌≡◌, ℕ, pos, true, false, List, [], ◌∷◌, Option, Some, None, refl}
use Rattle.std.specs.Prelude.{option_map}
use Rattle.pt_image.specs.declared.Parts.{Parts}
use Rattle.tk_cert.specs.declared.cert.Walk.{Walk}
use Rattle.tk_cert.specs.declared.cert.Line.TheVariants.{Bare, Thread, Routine, Cond}
use Rattle.tk_cert.specs.declared.cert.CertParts.{CertParts}
use Rattle.tk_cert.specs.Demands.{Demand, first_failing}
use Rattle.tk_paths.specs.Acceptance.{asks}

abbrev no_walk : Walk
no_walk = record { states = []; choices = [] }

abbrev Parting : Type 0
Parting = ℕ × ℕ × ℕ × ℕ × Option ℕ

abbrev parts_of : Demand → Parting
parts_of d = (d.condition, d.at, d.level, d.needed, d.given)

abbrev answer : Parts → CertParts → List ℕ → Option Parting
answer image cert costs = option_map parts_of (first_failing (asks image cert costs))

image_0 : Parts
image_0 = record { code = (3898605568 ∷ 811794433 ∷ 4167041028 ∷ 4229955584 ∷ 3087073264 ∷ []); memory = (pos 0 ∷ pos 0 ∷ []); inputs = (0 ∷ []); outputs = (1 ∷ []); slots = (0 ∷ []); aborts = []; pauses = (record { at = 3; slot = 0; stack = [] } ∷ []); forks = [] }

cert_0 : CertParts
cert_0 = record { bound = 14; lines = (Thread 0 [] [] ((Some 10, None) ∷ []) ∷ Thread 0 [] [] ((Some 9, None) ∷ []) ∷ Thread 0 [] [] ((Some 8, None) ∷ []) ∷ Thread 0 [] [] ((Some 7, None) ∷ []) ∷ Thread 0 [] [] ((Some 11, None) ∷ []) ∷ []); weights = []; slot_bounds = ((Some 11, None) ∷ []); walk = no_walk }

case_0 : answer image_0 cert_0 (1 ∷ 1 ∷ 1 ∷ 1 ∷ 1 ∷ 1 ∷ 1 ∷ 1 ∷ 1 ∷ 1 ∷ 1 ∷ 7 ∷ 1 ∷ 1 ∷ 1 ∷ 1 ∷ 1 ∷ 1 ∷ 1 ∷ 1 ∷ 1 ∷ 1 ∷ []) ≡ None
unfolding image_0 cert_0
case_0 = refl

image_1 : Parts
image_1 = record { code = (4227858689 ∷ 4227858689 ∷ 4232052736 ∷ 4232052736 ∷ []); memory = []; inputs = []; outputs = []; slots = (0 ∷ 3 ∷ []); aborts = []; pauses = []; forks = (record { at = 0; slot = 0; stack = [] } ∷ record { at = 1; slot = 0; stack = [] } ∷ []) }

cert_1 : CertParts
cert_1 = record { bound = 6; lines = (Thread 0 [] [] ((None, Some 5) ∷ []) ∷ Thread 0 [] [] ((None, Some 3) ∷ []) ∷ Thread 0 [] [] ((None, Some 1) ∷ []) ∷ Thread 1 [] [] ((None, Some 1) ∷ []) ∷ []); weights = []; slot_bounds = ((None, None) ∷ (None, None) ∷ []); walk = no_walk }

case_1 : answer image_1 cert_1 (1 ∷ 1 ∷ 1 ∷ 1 ∷ 1 ∷ 1 ∷ 1 ∷ 1 ∷ 1 ∷ 1 ∷ 1 ∷ 1 ∷ 1 ∷ 1 ∷ 1 ∷ 1 ∷ 1 ∷ 1 ∷ 1 ∷ 1 ∷ 1 ∷ 1 ∷ []) ≡ Some (2, 1, 0, 0, Some 0)
unfolding image_1 cert_1
case_1 = refl

image_2 : Parts
image_2 = record { code = (4227858690 ∷ 811597825 ∷ 4229955584 ∷ 4232052736 ∷ 4229955584 ∷ 4232052736 ∷ 4232052736 ∷ []); memory = []; inputs = []; outputs = []; slots = (0 ∷ 4 ∷ 6 ∷ []); aborts = []; pauses = (record { at = 2; slot = 0; stack = [] } ∷ record { at = 4; slot = 1; stack = [] } ∷ []); forks = (record { at = 0; slot = 0; stack = [] } ∷ []) }

cert_2 : CertParts
cert_2 = record { bound = 4; lines = (Thread 0 [] [] ((Some 3, None) ∷ []) ∷ Thread 0 [] [] ((Some 2, None) ∷ []) ∷ Thread 0 [] [] ((Some 1, None) ∷ []) ∷ Thread 0 [] [] ((None, Some 1) ∷ []) ∷ Thread 1 [] [] ((Some 1, None) ∷ []) ∷ Thread 1 [] [] ((None, Some 1) ∷ []) ∷ Thread 2 [] [] ((None, Some 1) ∷ []) ∷ []); weights = []; slot_bounds = ((Some 3, Some 1) ∷ (None, Some 1) ∷ (None, None) ∷ []); walk = no_walk }

case_2 : answer image_2 cert_2 (1 ∷ 1 ∷ 1 ∷ 1 ∷ 1 ∷ 1 ∷ 1 ∷ 1 ∷ 1 ∷ 1 ∷ 1 ∷ 1 ∷ 1 ∷ 1 ∷ 1 ∷ 1 ∷ 1 ∷ 1 ∷ 1 ∷ 1 ∷ 1 ∷ 1 ∷ []) ≡ None
unfolding image_2 cert_2
case_2 = refl

image_3 : Parts
image_3 = record { code = (3898605576 ∷ 4229955584 ∷ 3087073272 ∷ []); memory = (pos 0 ∷ pos 0 ∷ []); inputs = []; outputs = []; slots = (0 ∷ []); aborts = []; pauses = (record { at = 1; slot = 0; stack = [] } ∷ []); forks = [] }

cert_3 : CertParts
cert_3 = record { bound = 4; lines = (Thread 0 [] [] ((Some 2, None) ∷ []) ∷ Thread 0 [] [] ((Some 1, None) ∷ []) ∷ Thread 0 [] [] ((Some 3, None) ∷ []) ∷ []); weights = []; slot_bounds = ((Some 3, None) ∷ []); walk = no_walk }

case_3 : answer image_3 cert_3 (1 ∷ 1 ∷ 1 ∷ 1 ∷ 1 ∷ 1 ∷ 1 ∷ 1 ∷ 1 ∷ 1 ∷ 1 ∷ 1 ∷ 1 ∷ 1 ∷ 1 ∷ 1 ∷ 1 ∷ 1 ∷ 1 ∷ 1 ∷ 1 ∷ 1 ∷ []) ≡ None
unfolding image_3 cert_3
case_3 = refl

image_4 : Parts
image_4 = record { code = (4234149888 ∷ 4229955584 ∷ 3087073276 ∷ 3087073268 ∷ 3900702720 ∷ 4249092096 ∷ []); memory = (pos 0 ∷ []); inputs = (0 ∷ []); outputs = []; slots = (0 ∷ []); aborts = (record { weak = true; cond = 4; handler = 3 } ∷ []); pauses = (record { at = 1; slot = 0; stack = (0 ∷ []) } ∷ []); forks = [] }

cert_4 : CertParts
cert_4 = record { bound = 9; lines = (Thread 0 [] [] ((Some 2, None) ∷ []) ∷ Thread 0 (0 ∷ []) [] ((Some 1, None) ∷ (Some 4, None) ∷ []) ∷ Thread 0 (0 ∷ []) [] ((Some 2, None) ∷ (Some 5, None) ∷ []) ∷ Thread 0 [] [] ((Some 3, None) ∷ []) ∷ Cond 2 ∷ Cond 1 ∷ []); weights = []; slot_bounds = ((Some 7, None) ∷ []); walk = no_walk }

case_4 : answer image_4 cert_4 (1 ∷ 1 ∷ 1 ∷ 1 ∷ 1 ∷ 1 ∷ 1 ∷ 1 ∷ 1 ∷ 1 ∷ 1 ∷ 1 ∷ 1 ∷ 1 ∷ 1 ∷ 1 ∷ 1 ∷ 1 ∷ 1 ∷ 1 ∷ 1 ∷ 1 ∷ []) ≡ None
unfolding image_4 cert_4
case_4 = refl

image_5 : Parts
image_5 = record { code = (4242538499 ∷ 4244635652 ∷ 811794433 ∷ 3087073272 ∷ 4229955584 ∷ 3087073260 ∷ []); memory = []; inputs = []; outputs = []; slots = (0 ∷ []); aborts = []; pauses = (record { at = 4; slot = 0; stack = [] } ∷ []); forks = [] }

cert_5 : CertParts
cert_5 = record { bound = 14; lines = (Thread 0 [] [] ((Some 12, None) ∷ []) ∷ Thread 0 [] (0 ∷ []) ((Some 2, None) ∷ []) ∷ Thread 0 [] (0 ∷ []) ((Some 4, None) ∷ []) ∷ Thread 0 [] (0 ∷ []) ((Some 3, None) ∷ []) ∷ Thread 0 [] [] ((Some 1, None) ∷ []) ∷ Thread 0 [] [] ((Some 13, None) ∷ []) ∷ []); weights = ((0, 3) ∷ []); slot_bounds = ((Some 13, None) ∷ []); walk = no_walk }

case_5 : answer image_5 cert_5 (1 ∷ 1 ∷ 1 ∷ 1 ∷ 1 ∷ 1 ∷ 1 ∷ 1 ∷ 1 ∷ 1 ∷ 1 ∷ 1 ∷ 1 ∷ 1 ∷ 1 ∷ 1 ∷ 1 ∷ 1 ∷ 1 ∷ 1 ∷ 1 ∷ 1 ∷ []) ≡ None
unfolding image_5 cert_5
case_5 = refl

image_6 : Parts
image_6 = record { code = (4238344194 ∷ 4232052736 ∷ 4238344194 ∷ 4240441344 ∷ []); memory = []; inputs = []; outputs = []; slots = (0 ∷ []); aborts = []; pauses = []; forks = [] }

cert_6 : CertParts
cert_6 = record { bound = 7; lines = (Thread 0 [] [] ((None, Some 6) ∷ []) ∷ Thread 0 [] [] ((None, Some 1) ∷ []) ∷ Routine 1 [] 4 ∷ Routine 1 [] 1 ∷ []); weights = []; slot_bounds = ((None, None) ∷ []); walk = no_walk }

case_6 : answer image_6 cert_6 (1 ∷ 1 ∷ 1 ∷ 1 ∷ 1 ∷ 1 ∷ 1 ∷ 1 ∷ 1 ∷ 1 ∷ 1 ∷ 1 ∷ 1 ∷ 1 ∷ 1 ∷ 1 ∷ 1 ∷ 1 ∷ 1 ∷ 1 ∷ 1 ∷ 1 ∷ []) ≡ Some (1, 2, 0, 0, Some 0)
unfolding image_6 cert_6
case_6 = refl

image_7 : Parts
image_7 = record { code = (4234149888 ∷ 4227858689 ∷ 4236247040 ∷ 4232052736 ∷ 4232052736 ∷ 4248829952 ∷ []); memory = []; inputs = []; outputs = []; slots = (0 ∷ 4 ∷ []); aborts = (record { weak = false; cond = 5; handler = 3 } ∷ []); pauses = []; forks = (record { at = 1; slot = 0; stack = (0 ∷ []) } ∷ []) }

cert_7 : CertParts
cert_7 = record { bound = 6; lines = (Thread 0 [] [] ((None, Some 5) ∷ []) ∷ Thread 0 (0 ∷ []) [] ((None, Some 4) ∷ (None, Some 4) ∷ []) ∷ Thread 0 (0 ∷ []) [] ((None, Some 2) ∷ (None, Some 2) ∷ []) ∷ Thread 0 [] [] ((None, Some 1) ∷ []) ∷ Thread 1 [] [] ((None, Some 1) ∷ []) ∷ Cond 1 ∷ []); weights = []; slot_bounds = ((None, None) ∷ (None, None) ∷ []); walk = no_walk }

case_7 : answer image_7 cert_7 (1 ∷ 1 ∷ 1 ∷ 1 ∷ 1 ∷ 1 ∷ 1 ∷ 1 ∷ 1 ∷ 1 ∷ 1 ∷ 1 ∷ 1 ∷ 1 ∷ 1 ∷ 1 ∷ 1 ∷ 1 ∷ 1 ∷ 1 ∷ 1 ∷ 1 ∷ []) ≡ None
unfolding image_7 cert_7
case_7 = refl

image_8 : Parts
image_8 = record { code = (2952790017 ∷ 811794433 ∷ 4232052736 ∷ []); memory = []; inputs = []; outputs = []; slots = (0 ∷ []); aborts = []; pauses = []; forks = [] }

cert_8 : CertParts
cert_8 = record { bound = 4; lines = (Thread 0 [] [] ((None, Some 3) ∷ []) ∷ Thread 0 [] [] ((None, Some 2) ∷ []) ∷ Thread 0 [] [] ((None, Some 1) ∷ []) ∷ []); weights = []; slot_bounds = ((None, None) ∷ []); walk = no_walk }

case_8 : answer image_8 cert_8 (1 ∷ 1 ∷ 1 ∷ 1 ∷ 1 ∷ 1 ∷ 1 ∷ 1 ∷ 1 ∷ 1 ∷ 1 ∷ 1 ∷ 1 ∷ 1 ∷ 1 ∷ 1 ∷ 1 ∷ 1 ∷ 1 ∷ 1 ∷ 1 ∷ 1 ∷ []) ≡ None
unfolding image_8 cert_8
case_8 = refl

image_9 : Parts
image_9 = record { code = (2952790016 ∷ 3087007748 ∷ 4232052736 ∷ []); memory = []; inputs = []; outputs = []; slots = (0 ∷ []); aborts = []; pauses = []; forks = [] }

cert_9 : CertParts
cert_9 = record { bound = 4; lines = (Thread 0 [] [] ((None, Some 3) ∷ []) ∷ Thread 0 [] [] ((None, Some 2) ∷ []) ∷ Thread 0 [] [] ((None, Some 1) ∷ []) ∷ []); weights = []; slot_bounds = ((None, None) ∷ []); walk = no_walk }

case_9 : answer image_9 cert_9 (1 ∷ 1 ∷ 1 ∷ 1 ∷ 1 ∷ 1 ∷ 1 ∷ 1 ∷ 1 ∷ 1 ∷ 1 ∷ 1 ∷ 1 ∷ 1 ∷ 1 ∷ 1 ∷ 1 ∷ 1 ∷ 1 ∷ 1 ∷ 1 ∷ 1 ∷ []) ≡ None
unfolding image_9 cert_9
case_9 = refl

image_10 : Parts
image_10 = record { code = (4238344195 ∷ 4232052736 ∷ 0 ∷ 4238344198 ∷ 811794433 ∷ 4240441344 ∷ 4242538498 ∷ 4244635657 ∷ 3087073276 ∷ 4240441344 ∷ []); memory = []; inputs = []; outputs = []; slots = (0 ∷ []); aborts = []; pauses = []; forks = [] }

cert_10 : CertParts
cert_10 = record { bound = 15; lines = (Thread 0 [] [] ((None, Some 14) ∷ []) ∷ Thread 0 [] [] ((None, Some 1) ∷ []) ∷ Bare ∷ Routine 2 [] 12 ∷ Routine 2 [] 2 ∷ Routine 2 [] 1 ∷ Routine 1 [] 9 ∷ Routine 1 (6 ∷ []) 2 ∷ Routine 1 (6 ∷ []) 3 ∷ Routine 1 [] 1 ∷ []); weights = ((6, 2) ∷ []); slot_bounds = ((None, None) ∷ []); walk = no_walk }

case_10 : answer image_10 cert_10 (1 ∷ 1 ∷ 1 ∷ 1 ∷ 1 ∷ 1 ∷ 1 ∷ 1 ∷ 1 ∷ 1 ∷ 1 ∷ 1 ∷ 1 ∷ 1 ∷ 1 ∷ 1 ∷ 1 ∷ 1 ∷ 1 ∷ 1 ∷ 1 ∷ 1 ∷ []) ≡ None
unfolding image_10 cert_10
case_10 = refl

image_11 : Parts
image_11 = record { code = (4242538499 ∷ 4244635654 ∷ 3154313228 ∷ 811794433 ∷ 3087073268 ∷ 4246732800 ∷ 4232052736 ∷ []); memory = []; inputs = []; outputs = []; slots = (0 ∷ []); aborts = []; pauses = []; forks = [] }

cert_11 : CertParts
cert_11 = record { bound = 18; lines = (Thread 0 [] [] ((None, Some 17) ∷ []) ∷ Thread 0 [] (0 ∷ []) ((None, Some 4) ∷ []) ∷ Thread 0 [] (0 ∷ []) ((None, Some 7) ∷ []) ∷ Thread 0 [] (0 ∷ []) ((None, Some 6) ∷ []) ∷ Thread 0 [] (0 ∷ []) ((None, Some 5) ∷ []) ∷ Thread 0 [] (0 ∷ []) ((None, Some 2) ∷ []) ∷ Thread 0 [] [] ((None, Some 1) ∷ []) ∷ []); weights = ((0, 4) ∷ []); slot_bounds = ((None, None) ∷ []); walk = no_walk }

case_11 : answer image_11 cert_11 (1 ∷ 1 ∷ 1 ∷ 1 ∷ 1 ∷ 1 ∷ 1 ∷ 1 ∷ 1 ∷ 1 ∷ 1 ∷ 1 ∷ 1 ∷ 1 ∷ 1 ∷ 1 ∷ 1 ∷ 1 ∷ 1 ∷ 1 ∷ 1 ∷ 1 ∷ []) ≡ None
unfolding image_11 cert_11
case_11 = refl

image_12 : Parts
image_12 = record { code = (4234149888 ∷ 4227858690 ∷ 4236247040 ∷ 4232052736 ∷ 4229955584 ∷ 3087073276 ∷ 4229955584 ∷ 4232052736 ∷ 4248829952 ∷ []); memory = []; inputs = []; outputs = []; slots = (0 ∷ 4 ∷ 6 ∷ []); aborts = (record { weak = true; cond = 8; handler = 3 } ∷ []); pauses = (record { at = 4; slot = 1; stack = [] } ∷ record { at = 6; slot = 2; stack = [] } ∷ []); forks = (record { at = 1; slot = 0; stack = (0 ∷ []) } ∷ []) }

cert_12 : CertParts
cert_12 = record { bound = 8; lines = (Thread 0 [] [] ((Some 4, None) ∷ []) ∷ Thread 0 (0 ∷ []) [] ((Some 3, None) ∷ (Some 3, Some 4) ∷ []) ∷ Thread 0 (0 ∷ []) [] ((None, Some 2) ∷ (None, Some 2) ∷ []) ∷ Thread 0 [] [] ((None, Some 1) ∷ []) ∷ Thread 1 [] [] ((Some 1, None) ∷ []) ∷ Thread 1 [] [] ((Some 2, None) ∷ []) ∷ Thread 2 [] [] ((Some 1, None) ∷ []) ∷ Thread 2 [] [] ((None, Some 1) ∷ []) ∷ Cond 1 ∷ []); weights = []; slot_bounds = ((Some 4, Some 5) ∷ (Some 2, None) ∷ (None, Some 1) ∷ []); walk = no_walk }

case_12 : answer image_12 cert_12 (1 ∷ 1 ∷ 1 ∷ 1 ∷ 1 ∷ 1 ∷ 1 ∷ 1 ∷ 1 ∷ 1 ∷ 1 ∷ 1 ∷ 1 ∷ 1 ∷ 1 ∷ 1 ∷ 1 ∷ 1 ∷ 1 ∷ 1 ∷ 1 ∷ 1 ∷ []) ≡ None
unfolding image_12 cert_12
case_12 = refl

image_13 : Parts
image_13 = record { code = (2952790016 ∷ 811794433 ∷ 2952790016 ∷ 4238344193 ∷ 4232052736 ∷ 4240441344 ∷ []); memory = []; inputs = []; outputs = []; slots = (0 ∷ []); aborts = []; pauses = []; forks = [] }

cert_13 : CertParts
cert_13 = record { bound = 9; lines = (Thread 0 [] [] ((None, Some 5) ∷ []) ∷ Thread 0 [] [] ((None, Some 4) ∷ []) ∷ Thread 0 [] [] ((None, Some 3) ∷ []) ∷ Thread 0 [] [] ((None, Some 2) ∷ []) ∷ Thread 0 [] [] ((None, Some 1) ∷ []) ∷ Bare ∷ []); weights = []; slot_bounds = ((None, None) ∷ []); walk = no_walk }

case_13 : answer image_13 cert_13 (1 ∷ 1 ∷ 1 ∷ 1 ∷ 1 ∷ 1 ∷ 1 ∷ 1 ∷ 1 ∷ 1 ∷ 1 ∷ 1 ∷ 1 ∷ 1 ∷ 1 ∷ 1 ∷ 1 ∷ 1 ∷ 1 ∷ 1 ∷ 1 ∷ 1 ∷ []) ≡ Some (1, 0, 0, 0, Some 0)
unfolding image_13 cert_13
case_13 = refl

image_14 : Parts
image_14 = record { code = (4242538499 ∷ 4244635652 ∷ 811794433 ∷ 3087073272 ∷ 4229955584 ∷ 3087073260 ∷ []); memory = []; inputs = []; outputs = []; slots = (0 ∷ []); aborts = []; pauses = (record { at = 4; slot = 0; stack = [] } ∷ []); forks = [] }

cert_14 : CertParts
cert_14 = record { bound = 14; lines = (Thread 0 [] [] ((Some 11, None) ∷ []) ∷ Thread 0 [] (0 ∷ []) ((Some 2, None) ∷ []) ∷ Thread 0 [] (0 ∷ []) ((Some 4, None) ∷ []) ∷ Thread 0 [] (0 ∷ []) ((Some 3, None) ∷ []) ∷ Thread 0 [] [] ((Some 1, None) ∷ []) ∷ Thread 0 [] [] ((Some 13, None) ∷ []) ∷ []); weights = ((0, 3) ∷ []); slot_bounds = ((Some 13, None) ∷ []); walk = no_walk }

case_14 : answer image_14 cert_14 (1 ∷ 1 ∷ 1 ∷ 1 ∷ 1 ∷ 1 ∷ 1 ∷ 1 ∷ 1 ∷ 1 ∷ 1 ∷ 1 ∷ 1 ∷ 1 ∷ 1 ∷ 1 ∷ 1 ∷ 1 ∷ 1 ∷ 1 ∷ 1 ∷ 1 ∷ []) ≡ Some (3, 0, 0, 12, Some 11)
unfolding image_14 cert_14
case_14 = refl

image_15 : Parts
image_15 = record { code = (3898605568 ∷ 811794433 ∷ 4167041028 ∷ 4229955584 ∷ 3087073264 ∷ []); memory = (pos 0 ∷ pos 0 ∷ []); inputs = (0 ∷ []); outputs = (1 ∷ []); slots = (0 ∷ []); aborts = []; pauses = (record { at = 3; slot = 0; stack = [] } ∷ []); forks = [] }

cert_15 : CertParts
cert_15 = record { bound = 14; lines = (Thread 0 [] [] ((Some 10, None) ∷ []) ∷ Thread 0 [] [] ((Some 9, None) ∷ []) ∷ Thread 0 [] [] ((Some 8, None) ∷ []) ∷ Thread 0 [] [] ((Some 6, None) ∷ []) ∷ Thread 0 [] [] ((Some 11, None) ∷ []) ∷ []); weights = []; slot_bounds = ((Some 11, None) ∷ []); walk = no_walk }

case_15 : answer image_15 cert_15 (1 ∷ 1 ∷ 1 ∷ 1 ∷ 1 ∷ 1 ∷ 1 ∷ 1 ∷ 1 ∷ 1 ∷ 1 ∷ 7 ∷ 1 ∷ 1 ∷ 1 ∷ 1 ∷ 1 ∷ 1 ∷ 1 ∷ 1 ∷ 1 ∷ 1 ∷ []) ≡ Some (4, 3, 0, 7, Some 6)
unfolding image_15 cert_15
case_15 = refl

image_16 : Parts
image_16 = record { code = (2952790017 ∷ 811794433 ∷ 4232052736 ∷ []); memory = []; inputs = []; outputs = []; slots = (0 ∷ []); aborts = []; pauses = []; forks = [] }

cert_16 : CertParts
cert_16 = record { bound = 4; lines = (Thread 0 [] [] ((None, Some 3) ∷ []) ∷ Thread 0 [] [] ((None, Some 2) ∷ []) ∷ Thread 0 [] [] ((Some 0, Some 1) ∷ []) ∷ []); weights = []; slot_bounds = ((Some 0, None) ∷ []); walk = no_walk }

case_16 : answer image_16 cert_16 (1 ∷ 1 ∷ 1 ∷ 1 ∷ 1 ∷ 1 ∷ 1 ∷ 1 ∷ 1 ∷ 1 ∷ 1 ∷ 1 ∷ 1 ∷ 1 ∷ 1 ∷ 1 ∷ 1 ∷ 1 ∷ 1 ∷ 1 ∷ 1 ∷ 1 ∷ []) ≡ Some (3, 1, 0, 1, None)
unfolding image_16 cert_16
case_16 = refl

image_17 : Parts
image_17 = record { code = (2952790017 ∷ 811794433 ∷ 4232052736 ∷ []); memory = []; inputs = []; outputs = []; slots = (0 ∷ []); aborts = []; pauses = []; forks = [] }

cert_17 : CertParts
cert_17 = record { bound = 4; lines = (Thread 0 [] [] ((None, Some 4) ∷ []) ∷ Thread 0 [] [] ((None, Some 2) ∷ []) ∷ Thread 0 [] [] ((None, Some 1) ∷ []) ∷ []); weights = []; slot_bounds = ((None, None) ∷ []); walk = no_walk }

case_17 : answer image_17 cert_17 (1 ∷ 1 ∷ 1 ∷ 1 ∷ 1 ∷ 1 ∷ 1 ∷ 1 ∷ 1 ∷ 1 ∷ 1 ∷ 1 ∷ 1 ∷ 1 ∷ 1 ∷ 1 ∷ 1 ∷ 1 ∷ 1 ∷ 1 ∷ 1 ∷ 1 ∷ []) ≡ Some (7, 0, 0, 5, Some 4)
unfolding image_17 cert_17
case_17 = refl

image_18 : Parts
image_18 = record { code = (4238344195 ∷ 4232052736 ∷ 0 ∷ 4238344198 ∷ 811794433 ∷ 4240441344 ∷ 4242538498 ∷ 4244635657 ∷ 3087073276 ∷ 4240441344 ∷ []); memory = []; inputs = []; outputs = []; slots = (0 ∷ []); aborts = []; pauses = []; forks = [] }

cert_18 : CertParts
cert_18 = record { bound = 15; lines = (Thread 0 [] [] ((None, Some 14) ∷ []) ∷ Thread 0 [] [] ((None, Some 1) ∷ []) ∷ Bare ∷ Routine 2 [] 12 ∷ Routine 2 [] 2 ∷ Routine 2 [] 1 ∷ Routine 1 [] 9 ∷ Routine 1 (6 ∷ []) 2 ∷ Routine 1 (6 ∷ []) 3 ∷ Routine 1 [] 2 ∷ []); weights = ((6, 2) ∷ []); slot_bounds = ((None, None) ∷ []); walk = no_walk }

case_18 : answer image_18 cert_18 (1 ∷ 1 ∷ 1 ∷ 1 ∷ 1 ∷ 1 ∷ 1 ∷ 1 ∷ 1 ∷ 1 ∷ 1 ∷ 1 ∷ 1 ∷ 1 ∷ 1 ∷ 1 ∷ 1 ∷ 1 ∷ 1 ∷ 1 ∷ 1 ∷ 1 ∷ []) ≡ Some (3, 7, 0, 3, Some 2)
unfolding image_18 cert_18
case_18 = refl

image_19 : Parts
image_19 = record { code = (4242538499 ∷ 4244635652 ∷ 811794433 ∷ 3087073272 ∷ 4229955584 ∷ 3087073260 ∷ []); memory = []; inputs = []; outputs = []; slots = (0 ∷ []); aborts = []; pauses = (record { at = 4; slot = 0; stack = [] } ∷ []); forks = [] }

cert_19 : CertParts
cert_19 = record { bound = 14; lines = (Thread 0 [] [] ((Some 12, None) ∷ []) ∷ Thread 0 [] (0 ∷ []) ((Some 2, None) ∷ []) ∷ Thread 0 [] (0 ∷ []) ((Some 4, None) ∷ []) ∷ Thread 0 [] (0 ∷ []) ((Some 3, None) ∷ []) ∷ Thread 0 [] [] ((Some 1, None) ∷ []) ∷ Thread 0 [] [] ((Some 13, None) ∷ []) ∷ []); weights = ((0, 3) ∷ []); slot_bounds = ((Some 14, None) ∷ []); walk = no_walk }

case_19 : answer image_19 cert_19 (1 ∷ 1 ∷ 1 ∷ 1 ∷ 1 ∷ 1 ∷ 1 ∷ 1 ∷ 1 ∷ 1 ∷ 1 ∷ 1 ∷ 1 ∷ 1 ∷ 1 ∷ 1 ∷ 1 ∷ 1 ∷ 1 ∷ 1 ∷ 1 ∷ 1 ∷ []) ≡ Some (7, 0, 0, 15, Some 14)
unfolding image_19 cert_19
case_19 = refl

image_20 : Parts
image_20 = record { code = (4234149888 ∷ 4227858689 ∷ 4236247040 ∷ 268435456 ∷ 4232052736 ∷ 4248829952 ∷ []); memory = []; inputs = []; outputs = []; slots = (0 ∷ 4 ∷ []); aborts = (record { weak = false; cond = 5; handler = 3 } ∷ []); pauses = []; forks = (record { at = 1; slot = 0; stack = (0 ∷ []) } ∷ []) }

cert_20 : CertParts
cert_20 = record { bound = 6; lines = (Thread 0 [] [] ((None, Some 5) ∷ []) ∷ Thread 0 (0 ∷ []) [] ((None, Some 4) ∷ (None, Some 4) ∷ []) ∷ Thread 0 (0 ∷ []) [] ((None, Some 2) ∷ (None, Some 2) ∷ []) ∷ Thread 0 [] [] ((None, Some 1) ∷ []) ∷ Thread 1 [] [] ((None, Some 1) ∷ []) ∷ Cond 1 ∷ []); weights = []; slot_bounds = ((None, None) ∷ (None, None) ∷ []); walk = no_walk }

case_20 : answer image_20 cert_20 (1 ∷ 1 ∷ 1 ∷ 1 ∷ 1 ∷ 1 ∷ 1 ∷ 1 ∷ 1 ∷ 7 ∷ 1 ∷ 1 ∷ 1 ∷ 1 ∷ 1 ∷ 1 ∷ 1 ∷ 1 ∷ 1 ∷ 1 ∷ 1 ∷ 1 ∷ []) ≡ Some (1, 3, 0, 0, Some 0)
unfolding image_20 cert_20
case_20 = refl

image_21 : Parts
image_21 = record { code = (4232052736 ∷ 4229955584 ∷ 3087073272 ∷ []); memory = (pos 0 ∷ pos 0 ∷ []); inputs = []; outputs = []; slots = (0 ∷ []); aborts = []; pauses = (record { at = 1; slot = 0; stack = [] } ∷ []); forks = [] }

cert_21 : CertParts
cert_21 = record { bound = 4; lines = (Thread 0 [] [] ((Some 2, None) ∷ []) ∷ Thread 0 [] [] ((Some 1, None) ∷ []) ∷ Thread 0 [] [] ((Some 3, None) ∷ []) ∷ []); weights = []; slot_bounds = ((Some 3, None) ∷ []); walk = no_walk }

case_21 : answer image_21 cert_21 (1 ∷ 1 ∷ 1 ∷ 1 ∷ 1 ∷ 1 ∷ 1 ∷ 1 ∷ 1 ∷ 1 ∷ 1 ∷ 1 ∷ 1 ∷ 1 ∷ 1 ∷ 1 ∷ 1 ∷ 1 ∷ 1 ∷ 1 ∷ 1 ∷ 1 ∷ []) ≡ Some (3, 0, 0, 1, None)
unfolding image_21 cert_21
case_21 = refl

image_22 : Parts
image_22 = record { code = (2952790016 ∷ 3087007748 ∷ 4232052736 ∷ []); memory = []; inputs = []; outputs = []; slots = (0 ∷ []); aborts = []; pauses = []; forks = [] }

cert_22 : CertParts
cert_22 = record { bound = 4; lines = (Thread 0 [] [] ((None, Some 3) ∷ []) ∷ Thread 0 [] [] ((None, Some 2) ∷ []) ∷ Thread 0 [] [] ((None, Some 1) ∷ []) ∷ []); weights = []; slot_bounds = ((None, Some 0) ∷ []); walk = no_walk }

case_22 : answer image_22 cert_22 (1 ∷ 1 ∷ 1 ∷ 1 ∷ 1 ∷ 1 ∷ 1 ∷ 1 ∷ 1 ∷ 1 ∷ 1 ∷ 1 ∷ 1 ∷ 1 ∷ 1 ∷ 1 ∷ 1 ∷ 1 ∷ 1 ∷ 1 ∷ 1 ∷ 1 ∷ []) ≡ None
unfolding image_22 cert_22
case_22 = refl

image_23 : Parts
image_23 = record { code = (4227858689 ∷ 4227858689 ∷ 4232052736 ∷ 4232052736 ∷ []); memory = []; inputs = []; outputs = []; slots = (0 ∷ 3 ∷ []); aborts = []; pauses = []; forks = (record { at = 0; slot = 0; stack = [] } ∷ record { at = 1; slot = 0; stack = [] } ∷ []) }

cert_23 : CertParts
cert_23 = record { bound = 6; lines = (Thread 0 [] [] ((None, Some 5) ∷ []) ∷ Thread 0 [] [] ((None, Some 3) ∷ []) ∷ Thread 0 [] [] ((None, Some 2) ∷ []) ∷ Thread 1 [] [] ((None, Some 1) ∷ []) ∷ []); weights = []; slot_bounds = ((None, None) ∷ (None, None) ∷ []); walk = no_walk }

case_23 : answer image_23 cert_23 (1 ∷ 1 ∷ 1 ∷ 1 ∷ 1 ∷ 1 ∷ 1 ∷ 1 ∷ 1 ∷ 1 ∷ 1 ∷ 1 ∷ 1 ∷ 1 ∷ 1 ∷ 1 ∷ 1 ∷ 1 ∷ 1 ∷ 1 ∷ 1 ∷ 1 ∷ []) ≡ Some (2, 1, 0, 0, Some 0)
unfolding image_23 cert_23
case_23 = refl

image_24 : Parts
image_24 = record { code = (2952790016 ∷ 3087007748 ∷ 4232052736 ∷ []); memory = []; inputs = []; outputs = []; slots = (0 ∷ []); aborts = []; pauses = []; forks = [] }

cert_24 : CertParts
cert_24 = record { bound = 4; lines = (Thread 0 [] [] ((None, Some 3) ∷ []) ∷ Thread 0 [] [] ((None, Some 1) ∷ []) ∷ Thread 0 [] [] ((None, Some 1) ∷ []) ∷ []); weights = []; slot_bounds = ((None, None) ∷ []); walk = no_walk }

case_24 : answer image_24 cert_24 (1 ∷ 1 ∷ 1 ∷ 1 ∷ 1 ∷ 1 ∷ 1 ∷ 1 ∷ 1 ∷ 1 ∷ 1 ∷ 1 ∷ 1 ∷ 1 ∷ 1 ∷ 1 ∷ 1 ∷ 1 ∷ 1 ∷ 1 ∷ 1 ∷ 1 ∷ []) ≡ Some (3, 1, 0, 2, Some 1)
unfolding image_24 cert_24
case_24 = refl

image_25 : Parts
image_25 = record { code = (4227858689 ∷ 4227858689 ∷ 4232052736 ∷ 4232052736 ∷ []); memory = []; inputs = []; outputs = []; slots = (0 ∷ 3 ∷ []); aborts = []; pauses = []; forks = (record { at = 0; slot = 0; stack = [] } ∷ record { at = 1; slot = 0; stack = [] } ∷ []) }

cert_25 : CertParts
cert_25 = record { bound = 6; lines = (Thread 0 [] [] ((None, Some 5) ∷ []) ∷ Thread 0 [] [] ((None, Some 3) ∷ []) ∷ Thread 0 [] [] ((None, Some 1) ∷ []) ∷ Thread 1 [] [] ((None, Some 1) ∷ []) ∷ []); weights = []; slot_bounds = ((Some 3, None) ∷ (None, None) ∷ []); walk = no_walk }

case_25 : answer image_25 cert_25 (1 ∷ 1 ∷ 1 ∷ 1 ∷ 1 ∷ 1 ∷ 1 ∷ 1 ∷ 1 ∷ 1 ∷ 1 ∷ 1 ∷ 1 ∷ 1 ∷ 1 ∷ 1 ∷ 1 ∷ 1 ∷ 1 ∷ 1 ∷ 1 ∷ 1 ∷ []) ≡ Some (2, 1, 0, 0, Some 0)
unfolding image_25 cert_25
case_25 = refl

image_26 : Parts
image_26 = record { code = (4238344195 ∷ 4232052736 ∷ 0 ∷ 4238344198 ∷ 811794433 ∷ 4240441344 ∷ 4242538498 ∷ 4244635657 ∷ 3087073276 ∷ 4240441344 ∷ []); memory = []; inputs = []; outputs = []; slots = (0 ∷ []); aborts = []; pauses = []; forks = [] }

cert_26 : CertParts
cert_26 = record { bound = 15; lines = (Thread 0 [] [] ((None, Some 14) ∷ []) ∷ Thread 0 [] [] ((None, Some 1) ∷ []) ∷ Bare ∷ Routine 2 [] 12 ∷ Routine 2 [] 2 ∷ Routine 2 [] 1 ∷ Routine 1 [] 20 ∷ Routine 1 (6 ∷ []) 1 ∷ Routine 1 (6 ∷ []) 3 ∷ Routine 1 [] 1 ∷ []); weights = ((6, 2) ∷ []); slot_bounds = ((None, None) ∷ []); walk = no_walk }

case_26 : answer image_26 cert_26 (1 ∷ 1 ∷ 1 ∷ 1 ∷ 1 ∷ 1 ∷ 1 ∷ 1 ∷ 1 ∷ 1 ∷ 1 ∷ 1 ∷ 1 ∷ 1 ∷ 1 ∷ 1 ∷ 1 ∷ 1 ∷ 1 ∷ 1 ∷ 1 ∷ 1 ∷ []) ≡ Some (3, 3, 0, 23, Some 12)
unfolding image_26 cert_26
case_26 = refl

image_27 : Parts
image_27 = record { code = (2952790016 ∷ 3087007748 ∷ 4232052736 ∷ []); memory = []; inputs = []; outputs = []; slots = (0 ∷ []); aborts = []; pauses = []; forks = [] }

cert_27 : CertParts
cert_27 = record { bound = 4; lines = (Thread 0 [] [] ((None, Some 3) ∷ []) ∷ Thread 0 [] [] ((None, Some 2) ∷ []) ∷ Thread 0 [] [] ((None, Some 1) ∷ []) ∷ []); weights = []; slot_bounds = ((None, Some 1) ∷ []); walk = no_walk }

case_27 : answer image_27 cert_27 (1 ∷ 1 ∷ 1 ∷ 1 ∷ 1 ∷ 1 ∷ 1 ∷ 1 ∷ 1 ∷ 1 ∷ 1 ∷ 1 ∷ 1 ∷ 1 ∷ 1 ∷ 1 ∷ 1 ∷ 1 ∷ 1 ∷ 1 ∷ 1 ∷ 1 ∷ []) ≡ None
unfolding image_27 cert_27
case_27 = refl

image_28 : Parts
image_28 = record { code = (4238344194 ∷ 4232052736 ∷ 4238344194 ∷ 4240441344 ∷ []); memory = []; inputs = []; outputs = []; slots = (0 ∷ []); aborts = []; pauses = []; forks = [] }

cert_28 : CertParts
cert_28 = record { bound = 7; lines = (Thread 0 [] [] ((None, Some 6) ∷ []) ∷ Thread 0 [] [] ((None, Some 1) ∷ []) ∷ Routine 1 [] 4 ∷ Routine 1 [] 2 ∷ []); weights = []; slot_bounds = ((None, None) ∷ []); walk = no_walk }

case_28 : answer image_28 cert_28 (1 ∷ 1 ∷ 255 ∷ 1 ∷ 1 ∷ 1 ∷ 1 ∷ 1 ∷ 1 ∷ 1 ∷ 1 ∷ 1 ∷ 1 ∷ 1 ∷ 1 ∷ 1 ∷ 1 ∷ 1 ∷ 1 ∷ 1 ∷ 1 ∷ 1 ∷ []) ≡ Some (1, 2, 0, 0, Some 0)
unfolding image_28 cert_28
case_28 = refl

image_29 : Parts
image_29 = record { code = (4227858690 ∷ 811597825 ∷ 4229955584 ∷ 4232052736 ∷ 4229955584 ∷ 4232052736 ∷ 4232052736 ∷ []); memory = []; inputs = []; outputs = []; slots = (0 ∷ 4 ∷ 6 ∷ []); aborts = []; pauses = (record { at = 2; slot = 0; stack = [] } ∷ record { at = 4; slot = 1; stack = [] } ∷ []); forks = (record { at = 0; slot = 0; stack = [] } ∷ []) }

cert_29 : CertParts
cert_29 = record { bound = 4; lines = (Thread 0 [] [] ((Some 3, None) ∷ []) ∷ Thread 0 [] [] ((Some 2, None) ∷ []) ∷ Thread 0 [] (0 ∷ []) ((Some 1, None) ∷ []) ∷ Thread 0 [] [] ((None, Some 1) ∷ []) ∷ Thread 1 [] [] ((Some 1, None) ∷ []) ∷ Thread 1 [] [] ((None, Some 1) ∷ []) ∷ Thread 2 [] [] ((None, Some 1) ∷ []) ∷ []); weights = []; slot_bounds = ((Some 3, Some 1) ∷ (None, Some 1) ∷ (None, None) ∷ []); walk = no_walk }

case_29 : answer image_29 cert_29 (1 ∷ 1 ∷ 1 ∷ 1 ∷ 1 ∷ 1 ∷ 1 ∷ 255 ∷ 1 ∷ 1 ∷ 1 ∷ 1 ∷ 1 ∷ 1 ∷ 1 ∷ 1 ∷ 1 ∷ 1 ∷ 1 ∷ 1 ∷ 1 ∷ 1 ∷ []) ≡ Some (1, 1, 0, 0, Some 0)
unfolding image_29 cert_29
case_29 = refl

image_30 : Parts
image_30 = record { code = (4227858690 ∷ 811597825 ∷ 4229955584 ∷ 4232052736 ∷ 4229955584 ∷ 4232052736 ∷ 4232052736 ∷ []); memory = []; inputs = []; outputs = []; slots = (0 ∷ 4 ∷ 6 ∷ []); aborts = []; pauses = (record { at = 2; slot = 0; stack = [] } ∷ record { at = 4; slot = 1; stack = [] } ∷ []); forks = (record { at = 0; slot = 0; stack = [] } ∷ []) }

cert_30 : CertParts
cert_30 = record { bound = 4; lines = (Thread 0 [] [] ((Some 3, None) ∷ []) ∷ Thread 0 [] [] ((Some 3, None) ∷ []) ∷ Thread 0 [] [] ((Some 1, None) ∷ []) ∷ Thread 0 [] [] ((None, Some 1) ∷ []) ∷ Thread 1 [] [] ((Some 1, None) ∷ []) ∷ Thread 1 [] [] ((None, Some 1) ∷ []) ∷ Thread 2 [] [] ((None, Some 1) ∷ []) ∷ []); weights = []; slot_bounds = ((Some 3, Some 1) ∷ (None, Some 1) ∷ (None, None) ∷ []); walk = no_walk }

case_30 : answer image_30 cert_30 (1 ∷ 1 ∷ 1 ∷ 1 ∷ 1 ∷ 1 ∷ 1 ∷ 1 ∷ 1 ∷ 1 ∷ 1 ∷ 1 ∷ 1 ∷ 1 ∷ 1 ∷ 1 ∷ 1 ∷ 1 ∷ 1 ∷ 1 ∷ 1 ∷ 1 ∷ []) ≡ Some (6, 0, 0, 4, Some 3)
unfolding image_30 cert_30
case_30 = refl

image_31 : Parts
image_31 = record { code = (2952790016 ∷ 3087007748 ∷ 4232052736 ∷ []); memory = []; inputs = []; outputs = []; slots = (0 ∷ []); aborts = []; pauses = []; forks = [] }

cert_31 : CertParts
cert_31 = record { bound = 4; lines = (Thread 0 [] [] ((None, Some 4) ∷ []) ∷ Thread 0 [] [] ((None, Some 2) ∷ []) ∷ Thread 0 [] [] ((None, Some 1) ∷ []) ∷ []); weights = []; slot_bounds = ((None, None) ∷ []); walk = no_walk }

case_31 : answer image_31 cert_31 (1 ∷ 1 ∷ 1 ∷ 1 ∷ 1 ∷ 1 ∷ 1 ∷ 1 ∷ 1 ∷ 1 ∷ 1 ∷ 1 ∷ 1 ∷ 1 ∷ 1 ∷ 1 ∷ 1 ∷ 1 ∷ 1 ∷ 1 ∷ 1 ∷ 1 ∷ []) ≡ Some (7, 0, 0, 5, Some 4)
unfolding image_31 cert_31
case_31 = refl

image_32 : Parts
image_32 = record { code = (2952790016 ∷ 3087007748 ∷ 4232052736 ∷ []); memory = []; inputs = []; outputs = []; slots = (0 ∷ []); aborts = []; pauses = []; forks = [] }

cert_32 : CertParts
cert_32 = record { bound = 4; lines = (Thread 0 [] [] ((None, Some 3) ∷ []) ∷ Thread 0 [] [] ((None, Some 2) ∷ []) ∷ Thread 0 [] [] ((None, Some 1) ∷ []) ∷ []); weights = []; slot_bounds = ((None, None) ∷ []); walk = no_walk }

case_32 : answer image_32 cert_32 (1 ∷ 1 ∷ 1 ∷ 1 ∷ 1 ∷ 1 ∷ 1 ∷ 1 ∷ 1 ∷ 1 ∷ 1 ∷ 1 ∷ 1 ∷ 1 ∷ 1 ∷ 1 ∷ 1 ∷ 1 ∷ 1 ∷ 1 ∷ 1 ∷ 1 ∷ []) ≡ None
unfolding image_32 cert_32
case_32 = refl

image_33 : Parts
image_33 = record { code = (2952790016 ∷ 811794433 ∷ 2952790016 ∷ 4238344193 ∷ 4232052736 ∷ 4240441344 ∷ []); memory = []; inputs = []; outputs = []; slots = (0 ∷ []); aborts = []; pauses = []; forks = [] }

cert_33 : CertParts
cert_33 = record { bound = 9; lines = (Thread 0 [] [] ((None, Some 4) ∷ []) ∷ Thread 0 [] [] ((None, Some 4) ∷ []) ∷ Thread 0 [] [] ((None, Some 3) ∷ []) ∷ Thread 0 [] [] ((None, Some 3) ∷ []) ∷ Thread 0 [] [] ((None, Some 1) ∷ []) ∷ Bare ∷ []); weights = []; slot_bounds = ((None, None) ∷ []); walk = no_walk }

case_33 : answer image_33 cert_33 (1 ∷ 1 ∷ 1 ∷ 1 ∷ 1 ∷ 1 ∷ 1 ∷ 1 ∷ 1 ∷ 1 ∷ 1 ∷ 1 ∷ 1 ∷ 1 ∷ 1 ∷ 1 ∷ 1 ∷ 1 ∷ 1 ∷ 1 ∷ 1 ∷ 1 ∷ []) ≡ Some (1, 0, 0, 0, Some 0)
unfolding image_33 cert_33
case_33 = refl

image_34 : Parts
image_34 = record { code = (4242538499 ∷ 4244635652 ∷ 811794433 ∷ 3087073272 ∷ 4229955584 ∷ 3087073260 ∷ []); memory = []; inputs = []; outputs = []; slots = (0 ∷ []); aborts = []; pauses = (record { at = 4; slot = 0; stack = [] } ∷ []); forks = [] }

cert_34 : CertParts
cert_34 = record { bound = 14; lines = (Thread 0 [] [] ((Some 12, None) ∷ []) ∷ Thread 0 [] (0 ∷ []) ((Some 2, None) ∷ []) ∷ Thread 0 [] (0 ∷ []) ((Some 4, None) ∷ []) ∷ Thread 0 [] (0 ∷ []) ((Some 3, None) ∷ []) ∷ Thread 0 [] [] ((Some 0, None) ∷ []) ∷ Thread 0 [] [] ((Some 13, None) ∷ []) ∷ []); weights = ((0, 3) ∷ []); slot_bounds = ((Some 13, None) ∷ []); walk = no_walk }

case_34 : answer image_34 cert_34 (1 ∷ 1 ∷ 1 ∷ 1 ∷ 1 ∷ 1 ∷ 1 ∷ 1 ∷ 1 ∷ 1 ∷ 1 ∷ 1 ∷ 1 ∷ 1 ∷ 1 ∷ 1 ∷ 1 ∷ 1 ∷ 1 ∷ 1 ∷ 1 ∷ 1 ∷ []) ≡ Some (4, 4, 0, 1, Some 0)
unfolding image_34 cert_34
case_34 = refl

image_35 : Parts
image_35 = record { code = (4238344195 ∷ 4232052736 ∷ 0 ∷ 4238344198 ∷ 811794433 ∷ 4240441344 ∷ 4242538498 ∷ 4244635657 ∷ 3087073276 ∷ 4240441344 ∷ []); memory = []; inputs = []; outputs = []; slots = (0 ∷ []); aborts = []; pauses = []; forks = [] }

cert_35 : CertParts
cert_35 = record { bound = 15; lines = (Thread 0 [] [] ((None, Some 14) ∷ []) ∷ Thread 0 [] [] ((None, Some 1) ∷ []) ∷ Bare ∷ Routine 2 [] 12 ∷ Routine 2 [] 2 ∷ Routine 2 [] 1 ∷ Routine 1 [] 9 ∷ Routine 1 (6 ∷ []) 2 ∷ Routine 1 (6 ∷ []) 3 ∷ Routine 1 [] 1 ∷ []); weights = ((6, 2) ∷ []); slot_bounds = ((None, None) ∷ []); walk = no_walk }

case_35 : answer image_35 cert_35 (1 ∷ 1 ∷ 1 ∷ 1 ∷ 1 ∷ 1 ∷ 1 ∷ 1 ∷ 1 ∷ 1 ∷ 1 ∷ 1 ∷ 1 ∷ 1 ∷ 1 ∷ 7 ∷ 1 ∷ 1 ∷ 1 ∷ 1 ∷ 1 ∷ 1 ∷ []) ≡ Some (3, 0, 0, 20, Some 14)
unfolding image_35 cert_35
case_35 = refl

image_36 : Parts
image_36 = record { code = (4227858689 ∷ 4227858689 ∷ 4232052736 ∷ 4232052736 ∷ []); memory = []; inputs = []; outputs = []; slots = (0 ∷ 3 ∷ []); aborts = []; pauses = []; forks = (record { at = 0; slot = 0; stack = [] } ∷ record { at = 1; slot = 0; stack = [] } ∷ []) }

cert_36 : CertParts
cert_36 = record { bound = 6; lines = (Thread 0 [] [] ((None, Some 5) ∷ []) ∷ Thread 0 [] [] ((None, Some 3) ∷ []) ∷ Thread 0 [] [] ((None, Some 1) ∷ []) ∷ Thread 2 [] [] ((None, Some 1) ∷ []) ∷ []); weights = []; slot_bounds = ((None, None) ∷ (None, None) ∷ []); walk = no_walk }

case_36 : answer image_36 cert_36 (1 ∷ 1 ∷ 1 ∷ 1 ∷ 1 ∷ 1 ∷ 1 ∷ 1 ∷ 1 ∷ 1 ∷ 1 ∷ 1 ∷ 1 ∷ 1 ∷ 1 ∷ 1 ∷ 1 ∷ 1 ∷ 1 ∷ 1 ∷ 1 ∷ 1 ∷ []) ≡ Some (1, 0, 0, 0, Some 0)
unfolding image_36 cert_36
case_36 = refl

image_37 : Parts
image_37 = record { code = (4234149888 ∷ 4229955584 ∷ 3087073276 ∷ 3087073268 ∷ 3900702720 ∷ 4249092096 ∷ []); memory = (pos 0 ∷ []); inputs = (0 ∷ []); outputs = []; slots = (0 ∷ []); aborts = (record { weak = true; cond = 4; handler = 3 } ∷ []); pauses = (record { at = 1; slot = 0; stack = (0 ∷ []) } ∷ []); forks = [] }

cert_37 : CertParts
cert_37 = record { bound = 9; lines = (Thread 0 [] [] ((Some 2, None) ∷ []) ∷ Thread 0 (0 ∷ []) [] ((Some 1, None) ∷ (Some 4, None) ∷ []) ∷ Thread 0 (0 ∷ []) [] ((Some 2, None) ∷ (Some 5, None) ∷ []) ∷ Thread 0 [] [] ((Some 3, None) ∷ []) ∷ Cond 2 ∷ Cond 0 ∷ []); weights = []; slot_bounds = ((Some 7, None) ∷ []); walk = no_walk }

case_37 : answer image_37 cert_37 (1 ∷ 1 ∷ 1 ∷ 1 ∷ 1 ∷ 1 ∷ 1 ∷ 1 ∷ 1 ∷ 1 ∷ 1 ∷ 1 ∷ 1 ∷ 1 ∷ 1 ∷ 1 ∷ 1 ∷ 1 ∷ 1 ∷ 1 ∷ 1 ∷ 1 ∷ []) ≡ Some (3, 5, 0, 1, Some 0)
unfolding image_37 cert_37
case_37 = refl

image_38 : Parts
image_38 = record { code = (4234149888 ∷ 4229955584 ∷ 3087073276 ∷ 3087073268 ∷ 3900702720 ∷ 4249092096 ∷ []); memory = (pos 0 ∷ []); inputs = (0 ∷ []); outputs = []; slots = (0 ∷ []); aborts = (record { weak = true; cond = 4; handler = 3 } ∷ []); pauses = (record { at = 1; slot = 0; stack = (0 ∷ []) } ∷ []); forks = [] }

cert_38 : CertParts
cert_38 = record { bound = 9; lines = (Thread 0 [] [] ((Some 2, None) ∷ []) ∷ Thread 1 (0 ∷ []) [] ((Some 1, None) ∷ (Some 4, None) ∷ []) ∷ Thread 0 (0 ∷ []) [] ((Some 2, None) ∷ (Some 5, None) ∷ []) ∷ Thread 0 [] [] ((Some 3, None) ∷ []) ∷ Cond 1 ∷ Cond 1 ∷ []); weights = []; slot_bounds = ((Some 7, None) ∷ []); walk = no_walk }

case_38 : answer image_38 cert_38 (1 ∷ 1 ∷ 1 ∷ 1 ∷ 1 ∷ 1 ∷ 1 ∷ 1 ∷ 1 ∷ 1 ∷ 1 ∷ 1 ∷ 1 ∷ 1 ∷ 1 ∷ 1 ∷ 1 ∷ 1 ∷ 1 ∷ 1 ∷ 1 ∷ 1 ∷ []) ≡ Some (1, 0, 0, 0, Some 0)
unfolding image_38 cert_38
case_38 = refl

image_39 : Parts
image_39 = record { code = (4242538499 ∷ 4244635654 ∷ 4232052736 ∷ 811794433 ∷ 3087073268 ∷ 4246732800 ∷ 4232052736 ∷ []); memory = []; inputs = []; outputs = []; slots = (0 ∷ []); aborts = []; pauses = []; forks = [] }

cert_39 : CertParts
cert_39 = record { bound = 18; lines = (Thread 0 [] [] ((None, Some 17) ∷ []) ∷ Thread 0 [] (0 ∷ []) ((None, Some 4) ∷ []) ∷ Thread 0 [] (0 ∷ []) ((None, Some 7) ∷ []) ∷ Thread 0 [] (0 ∷ []) ((None, Some 6) ∷ []) ∷ Thread 0 [] (0 ∷ []) ((None, Some 5) ∷ []) ∷ Thread 0 [] (0 ∷ []) ((None, Some 2) ∷ []) ∷ Thread 0 [] [] ((None, Some 1) ∷ []) ∷ []); weights = ((0, 4) ∷ []); slot_bounds = ((None, None) ∷ []); walk = no_walk }

case_39 : answer image_39 cert_39 (1 ∷ 1 ∷ 1 ∷ 1 ∷ 1 ∷ 1 ∷ 1 ∷ 1 ∷ 1 ∷ 1 ∷ 1 ∷ 1 ∷ 1 ∷ 1 ∷ 1 ∷ 1 ∷ 1 ∷ 1 ∷ 1 ∷ 1 ∷ 1 ∷ 1 ∷ []) ≡ Some (1, 2, 0, 0, Some 0)
unfolding image_39 cert_39
case_39 = refl

image_40 : Parts
image_40 = record { code = (4242538499 ∷ 4244635654 ∷ 3154313228 ∷ 811794433 ∷ 3087073268 ∷ 4246732800 ∷ 4232052736 ∷ []); memory = []; inputs = []; outputs = []; slots = (0 ∷ []); aborts = []; pauses = []; forks = [] }

cert_40 : CertParts
cert_40 = record { bound = 18; lines = (Thread 0 [] [] ((None, Some 17) ∷ []) ∷ Thread 0 [] (0 ∷ []) ((None, Some 4) ∷ []) ∷ Thread 0 [] (0 ∷ []) ((None, Some 7) ∷ []) ∷ Thread 0 [] (0 ∷ []) ((None, Some 6) ∷ []) ∷ Thread 0 [] (0 ∷ []) ((None, Some 5) ∷ []) ∷ Thread 0 [] (0 ∷ []) ((None, Some 2) ∷ []) ∷ Thread 0 [] [] ((None, Some 1) ∷ []) ∷ []); weights = ((0, 4) ∷ []); slot_bounds = ((None, Some 3) ∷ []); walk = no_walk }

case_40 : answer image_40 cert_40 (1 ∷ 1 ∷ 1 ∷ 1 ∷ 1 ∷ 1 ∷ 1 ∷ 1 ∷ 1 ∷ 1 ∷ 1 ∷ 1 ∷ 1 ∷ 1 ∷ 1 ∷ 1 ∷ 1 ∷ 1 ∷ 1 ∷ 1 ∷ 1 ∷ 1 ∷ []) ≡ None
unfolding image_40 cert_40
case_40 = refl

image_41 : Parts
image_41 = record { code = (4238344195 ∷ 4232052736 ∷ 0 ∷ 4238344198 ∷ 811794433 ∷ 4240441344 ∷ 4242538498 ∷ 4244635657 ∷ 3087073276 ∷ 4240441344 ∷ []); memory = []; inputs = []; outputs = []; slots = (0 ∷ []); aborts = []; pauses = []; forks = [] }

cert_41 : CertParts
cert_41 = record { bound = 14; lines = (Thread 0 [] [] ((None, Some 14) ∷ []) ∷ Thread 0 [] [] ((None, Some 1) ∷ []) ∷ Bare ∷ Routine 2 [] 12 ∷ Routine 2 [] 2 ∷ Routine 2 [] 1 ∷ Routine 1 [] 9 ∷ Routine 1 (6 ∷ []) 2 ∷ Routine 1 (6 ∷ []) 3 ∷ Routine 1 [] 1 ∷ []); weights = ((6, 2) ∷ []); slot_bounds = ((None, None) ∷ []); walk = no_walk }

case_41 : answer image_41 cert_41 (1 ∷ 1 ∷ 1 ∷ 1 ∷ 1 ∷ 1 ∷ 1 ∷ 1 ∷ 1 ∷ 1 ∷ 1 ∷ 1 ∷ 1 ∷ 1 ∷ 1 ∷ 1 ∷ 1 ∷ 1 ∷ 1 ∷ 1 ∷ 1 ∷ 1 ∷ []) ≡ Some (7, 0, 0, 15, Some 14)
unfolding image_41 cert_41
case_41 = refl

image_42 : Parts
image_42 = record { code = (4234149888 ∷ 4227858690 ∷ 4236247040 ∷ 4232052736 ∷ 4229955584 ∷ 3087073276 ∷ 4229955584 ∷ 4232052736 ∷ 4248829952 ∷ []); memory = []; inputs = []; outputs = []; slots = (0 ∷ 4 ∷ 6 ∷ []); aborts = (record { weak = true; cond = 8; handler = 3 } ∷ []); pauses = (record { at = 4; slot = 1; stack = [] } ∷ record { at = 6; slot = 2; stack = [] } ∷ []); forks = (record { at = 1; slot = 0; stack = (0 ∷ []) } ∷ []) }

cert_42 : CertParts
cert_42 = record { bound = 8; lines = (Thread 0 [] [] ((Some 4, None) ∷ []) ∷ Thread 0 (0 ∷ []) [] ((Some 3, None) ∷ (Some 3, Some 4) ∷ []) ∷ Thread 0 (0 ∷ []) [] ((None, Some 2) ∷ (None, Some 2) ∷ []) ∷ Bare ∷ Thread 1 [] [] ((Some 1, None) ∷ []) ∷ Thread 1 [] [] ((Some 2, None) ∷ []) ∷ Thread 2 [] [] ((Some 1, None) ∷ []) ∷ Thread 2 [] [] ((None, Some 1) ∷ []) ∷ Cond 1 ∷ []); weights = []; slot_bounds = ((Some 4, Some 5) ∷ (Some 2, None) ∷ (None, Some 1) ∷ []); walk = no_walk }

case_42 : answer image_42 cert_42 (1 ∷ 1 ∷ 1 ∷ 1 ∷ 1 ∷ 1 ∷ 1 ∷ 1 ∷ 1 ∷ 1 ∷ 1 ∷ 1 ∷ 1 ∷ 1 ∷ 1 ∷ 1 ∷ 1 ∷ 1 ∷ 1 ∷ 1 ∷ 1 ∷ 1 ∷ []) ≡ Some (1, 1, 0, 0, Some 0)
unfolding image_42 cert_42
case_42 = refl

image_43 : Parts
image_43 = record { code = (4246732800 ∷ 4227858689 ∷ 4236247040 ∷ 4232052736 ∷ 4232052736 ∷ 4248829952 ∷ []); memory = []; inputs = []; outputs = []; slots = (0 ∷ 4 ∷ []); aborts = (record { weak = false; cond = 5; handler = 3 } ∷ []); pauses = []; forks = (record { at = 1; slot = 0; stack = (0 ∷ []) } ∷ []) }

cert_43 : CertParts
cert_43 = record { bound = 6; lines = (Thread 0 [] [] ((None, Some 5) ∷ []) ∷ Thread 0 (0 ∷ []) [] ((None, Some 4) ∷ (None, Some 4) ∷ []) ∷ Thread 0 (0 ∷ []) [] ((None, Some 2) ∷ (None, Some 2) ∷ []) ∷ Thread 0 [] [] ((None, Some 1) ∷ []) ∷ Thread 1 [] [] ((None, Some 1) ∷ []) ∷ Cond 1 ∷ []); weights = []; slot_bounds = ((None, None) ∷ (None, None) ∷ []); walk = no_walk }

case_43 : answer image_43 cert_43 (1 ∷ 1 ∷ 1 ∷ 1 ∷ 1 ∷ 1 ∷ 1 ∷ 1 ∷ 1 ∷ 1 ∷ 1 ∷ 1 ∷ 1 ∷ 1 ∷ 1 ∷ 1 ∷ 1 ∷ 1 ∷ 1 ∷ 1 ∷ 1 ∷ 1 ∷ []) ≡ Some (1, 0, 0, 0, Some 0)
unfolding image_43 cert_43
case_43 = refl

image_44 : Parts
image_44 = record { code = (4234149888 ∷ 4227858689 ∷ 4236247040 ∷ 4232052736 ∷ 4232052736 ∷ 4248829952 ∷ []); memory = []; inputs = []; outputs = []; slots = (0 ∷ 4 ∷ []); aborts = (record { weak = false; cond = 5; handler = 3 } ∷ []); pauses = []; forks = (record { at = 1; slot = 0; stack = (0 ∷ []) } ∷ []) }

cert_44 : CertParts
cert_44 = record { bound = 6; lines = (Thread 0 [] [] ((None, Some 5) ∷ []) ∷ Thread 0 (0 ∷ []) [] ((None, Some 4) ∷ (None, Some 4) ∷ []) ∷ Thread 0 (0 ∷ []) [] ((None, Some 2) ∷ (None, Some 2) ∷ []) ∷ Thread 0 [] [] ((None, Some 1) ∷ []) ∷ Thread 1 [] [] ((None, None) ∷ []) ∷ Cond 1 ∷ []); weights = []; slot_bounds = ((None, None) ∷ (None, None) ∷ []); walk = no_walk }

case_44 : answer image_44 cert_44 (1 ∷ 1 ∷ 1 ∷ 1 ∷ 1 ∷ 1 ∷ 1 ∷ 1 ∷ 1 ∷ 1 ∷ 1 ∷ 1 ∷ 1 ∷ 1 ∷ 1 ∷ 1 ∷ 1 ∷ 1 ∷ 1 ∷ 1 ∷ 1 ∷ 1 ∷ []) ≡ Some (1, 4, 0, 0, Some 0)
unfolding image_44 cert_44
case_44 = refl

image_45 : Parts
image_45 = record { code = (4242538499 ∷ 4244635654 ∷ 3154313228 ∷ 811794433 ∷ 3087073268 ∷ 4246732800 ∷ 4232052736 ∷ []); memory = []; inputs = []; outputs = []; slots = (0 ∷ []); aborts = []; pauses = []; forks = [] }

cert_45 : CertParts
cert_45 = record { bound = 18; lines = (Thread 0 [] [] ((None, Some 17) ∷ []) ∷ Thread 0 [] (0 ∷ []) ((None, Some 4) ∷ []) ∷ Thread 0 [] (0 ∷ []) ((None, Some 7) ∷ []) ∷ Thread 0 [] (0 ∷ []) ((None, Some 6) ∷ []) ∷ Thread 0 [] (0 ∷ []) ((None, Some 5) ∷ []) ∷ Thread 0 [] (0 ∷ []) ((None, Some 2) ∷ []) ∷ Thread 0 [] [] ((None, Some 1) ∷ []) ∷ []); weights = ((0, 4) ∷ []); slot_bounds = ((None, None) ∷ []); walk = no_walk }

case_45 : answer image_45 cert_45 (1 ∷ 1 ∷ 7 ∷ 1 ∷ 1 ∷ 1 ∷ 1 ∷ 1 ∷ 1 ∷ 1 ∷ 1 ∷ 1 ∷ 1 ∷ 1 ∷ 1 ∷ 1 ∷ 1 ∷ 1 ∷ 1 ∷ 1 ∷ 1 ∷ 1 ∷ []) ≡ None
unfolding image_45 cert_45
case_45 = refl

image_46 : Parts
image_46 = record { code = (3898605576 ∷ 4229955584 ∷ 3087073272 ∷ []); memory = (pos 0 ∷ pos 0 ∷ []); inputs = []; outputs = []; slots = (0 ∷ []); aborts = []; pauses = (record { at = 1; slot = 0; stack = [] } ∷ []); forks = [] }

cert_46 : CertParts
cert_46 = record { bound = 4; lines = (Thread 0 [] [] ((Some 3, None) ∷ []) ∷ Thread 0 [] [] ((Some 1, None) ∷ []) ∷ Thread 0 [] [] ((Some 3, None) ∷ []) ∷ []); weights = []; slot_bounds = ((Some 3, None) ∷ []); walk = no_walk }

case_46 : answer image_46 cert_46 (1 ∷ 1 ∷ 1 ∷ 1 ∷ 1 ∷ 1 ∷ 1 ∷ 1 ∷ 1 ∷ 1 ∷ 1 ∷ 1 ∷ 1 ∷ 1 ∷ 1 ∷ 1 ∷ 1 ∷ 1 ∷ 1 ∷ 1 ∷ 1 ∷ 1 ∷ []) ≡ Some (3, 2, 0, 4, Some 3)
unfolding image_46 cert_46
case_46 = refl

image_47 : Parts
image_47 = record { code = (2952790016 ∷ 3087007748 ∷ 4232052736 ∷ []); memory = []; inputs = []; outputs = []; slots = (0 ∷ []); aborts = []; pauses = []; forks = [] }

cert_47 : CertParts
cert_47 = record { bound = 4; lines = (Thread 0 [] [] ((None, Some 3) ∷ []) ∷ Thread 0 [] [] ((None, Some 2) ∷ []) ∷ Thread 0 [] [] ((None, Some 1) ∷ []) ∷ []); weights = []; slot_bounds = ((Some 0, None) ∷ []); walk = no_walk }

case_47 : answer image_47 cert_47 (1 ∷ 1 ∷ 1 ∷ 1 ∷ 1 ∷ 1 ∷ 1 ∷ 1 ∷ 1 ∷ 1 ∷ 1 ∷ 1 ∷ 1 ∷ 1 ∷ 1 ∷ 1 ∷ 1 ∷ 1 ∷ 1 ∷ 1 ∷ 1 ∷ 1 ∷ []) ≡ None
unfolding image_47 cert_47
case_47 = refl

image_48 : Parts
image_48 = record { code = (4238344194 ∷ 4232052736 ∷ 4238344194 ∷ 4240441344 ∷ []); memory = []; inputs = []; outputs = []; slots = (0 ∷ []); aborts = []; pauses = []; forks = [] }

cert_48 : CertParts
cert_48 = record { bound = 7; lines = (Thread 0 [] [] ((None, Some 6) ∷ []) ∷ Thread 0 [] [] ((None, Some 1) ∷ []) ∷ Routine 1 [] 4 ∷ Routine 1 [] 1 ∷ []); weights = []; slot_bounds = ((None, Some 3) ∷ []); walk = no_walk }

case_48 : answer image_48 cert_48 (1 ∷ 1 ∷ 1 ∷ 1 ∷ 1 ∷ 1 ∷ 1 ∷ 1 ∷ 1 ∷ 1 ∷ 1 ∷ 1 ∷ 1 ∷ 1 ∷ 1 ∷ 1 ∷ 1 ∷ 1 ∷ 1 ∷ 1 ∷ 1 ∷ 1 ∷ []) ≡ Some (1, 2, 0, 0, Some 0)
unfolding image_48 cert_48
case_48 = refl

image_49 : Parts
image_49 = record { code = (4242538499 ∷ 4244635652 ∷ 811794433 ∷ 3087073272 ∷ 4229955584 ∷ 3087073260 ∷ []); memory = []; inputs = []; outputs = []; slots = (0 ∷ []); aborts = []; pauses = (record { at = 4; slot = 0; stack = [] } ∷ []); forks = [] }

cert_49 : CertParts
cert_49 = record { bound = 14; lines = (Thread 0 [] [] ((Some 12, None) ∷ []) ∷ Thread 0 [] (0 ∷ []) ((Some 2, None) ∷ []) ∷ Thread 0 [] (0 ∷ []) ((Some 4, None) ∷ []) ∷ Thread 0 [] (0 ∷ []) ((Some 3, None) ∷ []) ∷ Thread 0 [] [] ((Some 1, None) ∷ []) ∷ Thread 0 [] [] ((Some 13, None) ∷ []) ∷ []); weights = ((0, 3) ∷ []); slot_bounds = ((Some 12, None) ∷ []); walk = no_walk }

case_49 : answer image_49 cert_49 (1 ∷ 1 ∷ 1 ∷ 1 ∷ 1 ∷ 1 ∷ 1 ∷ 1 ∷ 1 ∷ 1 ∷ 1 ∷ 1 ∷ 1 ∷ 1 ∷ 1 ∷ 1 ∷ 1 ∷ 1 ∷ 1 ∷ 1 ∷ 1 ∷ 1 ∷ []) ≡ Some (6, 4, 0, 13, Some 12)
unfolding image_49 cert_49
case_49 = refl
