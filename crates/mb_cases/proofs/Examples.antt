-- Ticks by the definition: cycles and outputs, or the trap and its place, as a model that was written apart gave them.
use Rattle.std.specs.Int.{int_wrap}
use Rattle.std.proofs.Common.{◌≡◌, pos, negsuc, [], ◌∷◌, refl, true, false}
use Rattle.mb_pfu.specs.declared.TrapKind.TheVariants.{BadWord, OutOfCode, BadAddress, SlotBusy, TableFull, TableEmpty, WrongPlace, Late}
use Rattle.pt_image.specs.declared.Parts.{Parts}
use Rattle.mb_isa.specs.Tick.{run}
use Rattle.mb_cases.proofs.Seen.{Ended, Stopped, seen, loaded_unit, loaded_cells}

image_0 : Parts
image_0 = record {
  code = (4238344192 ∷ []);
  memory = ([]);
  inputs = ([]);
  outputs = ([]);
  slots = (0 ∷ []);
  aborts = [];
  pauses = [];
  forks = [];
}

run_0 : seen image_0 (1 ∷ 2 ∷ 3 ∷ 4 ∷ 5 ∷ 6 ∷ 7 ∷ 8 ∷ 9 ∷ 10 ∷ 11 ∷ 12 ∷ 13 ∷ 14 ∷ 15 ∷ 16 ∷ 17 ∷ 18 ∷ 19 ∷ 20 ∷ 21 ∷ 22 ∷ []) 3000 (loaded_unit image_0) (loaded_cells image_0) ((([]), ([])) ∷ []) ≡ Stopped TableFull 0 ∷ []
unfolding run int_wrap image_0
run_0 = refl

image_1 : Parts
image_1 = record {
  code = (4242538499 ∷ 3087073276 ∷ []);
  memory = ([]);
  inputs = ([]);
  outputs = ([]);
  slots = (0 ∷ []);
  aborts = [];
  pauses = [];
  forks = [];
}

run_1 : seen image_1 (1 ∷ 2 ∷ 3 ∷ 4 ∷ 5 ∷ 6 ∷ 7 ∷ 8 ∷ 9 ∷ 10 ∷ 11 ∷ 12 ∷ 13 ∷ 14 ∷ 15 ∷ 16 ∷ 17 ∷ 18 ∷ 19 ∷ 20 ∷ 21 ∷ 22 ∷ []) 300 (loaded_unit image_1) (loaded_cells image_1) ((([]), ([])) ∷ []) ≡ Stopped Late 1 ∷ []
unfolding run int_wrap image_1
run_1 = refl

image_2 : Parts
image_2 = record {
  code = (4234149888 ∷ 4234149888 ∷ 4234149888 ∷ 4234149888 ∷ 4234149888 ∷ 4234149888 ∷ 4234149888 ∷ 4234149888 ∷ 4234149888 ∷ 4232052736 ∷ []);
  memory = ([]);
  inputs = ([]);
  outputs = ([]);
  slots = (0 ∷ []);
  aborts = record { weak = true; cond = 0; handler = 0 } ∷ [];
  pauses = [];
  forks = [];
}

run_2 : seen image_2 (1 ∷ 2 ∷ 3 ∷ 4 ∷ 5 ∷ 6 ∷ 7 ∷ 8 ∷ 9 ∷ 10 ∷ 11 ∷ 12 ∷ 13 ∷ 14 ∷ 15 ∷ 16 ∷ 17 ∷ 18 ∷ 19 ∷ 20 ∷ 21 ∷ 22 ∷ []) 40 (loaded_unit image_2) (loaded_cells image_2) ((([]), ([])) ∷ []) ≡ Stopped Late 1 ∷ []
unfolding run int_wrap image_2
run_2 = refl

image_3 : Parts
image_3 = record {
  code = (4227858690 ∷ 4232052736 ∷ 4227858945 ∷ 4232052736 ∷ 4229955584 ∷ []);
  memory = ([]);
  inputs = ([]);
  outputs = ([]);
  slots = (0 ∷ 2 ∷ 4 ∷ []);
  aborts = [];
  pauses = record { at = 4; slot = 2; stack = ([]) } ∷ [];
  forks = record { at = 0; slot = 0; stack = ([]) } ∷ record { at = 2; slot = 1; stack = ([]) } ∷ [];
}

run_3 : seen image_3 (1 ∷ 2 ∷ 3 ∷ 4 ∷ 5 ∷ 6 ∷ 7 ∷ 8 ∷ 9 ∷ 10 ∷ 11 ∷ 12 ∷ 13 ∷ 14 ∷ 15 ∷ 16 ∷ 17 ∷ 18 ∷ 19 ∷ 20 ∷ 21 ∷ 22 ∷ []) 300 (loaded_unit image_3) (loaded_cells image_3) ((([]), ([])) ∷ []) ≡ Stopped SlotBusy 2 ∷ []
unfolding run int_wrap image_3
run_3 = refl

image_4 : Parts
image_4 = record {
  code = (4294967295 ∷ []);
  memory = ([]);
  inputs = ([]);
  outputs = ([]);
  slots = (0 ∷ []);
  aborts = [];
  pauses = [];
  forks = [];
}

run_4 : seen image_4 (1 ∷ 2 ∷ 3 ∷ 4 ∷ 5 ∷ 6 ∷ 7 ∷ 8 ∷ 9 ∷ 10 ∷ 11 ∷ 12 ∷ 13 ∷ 14 ∷ 15 ∷ 16 ∷ 17 ∷ 18 ∷ 19 ∷ 20 ∷ 21 ∷ 22 ∷ []) 300 (loaded_unit image_4) (loaded_cells image_4) ((([]), ([])) ∷ []) ≡ Stopped BadWord 0 ∷ []
unfolding run int_wrap image_4
run_4 = refl

image_5 : Parts
image_5 = record {
  code = (3087007748 ∷ 2952790017 ∷ 4249026560 ∷ []);
  memory = ([]);
  inputs = ([]);
  outputs = ([]);
  slots = (0 ∷ []);
  aborts = [];
  pauses = [];
  forks = [];
}

run_5 : seen image_5 (1 ∷ 2 ∷ 3 ∷ 4 ∷ 5 ∷ 6 ∷ 7 ∷ 8 ∷ 9 ∷ 10 ∷ 11 ∷ 12 ∷ 13 ∷ 14 ∷ 15 ∷ 16 ∷ 17 ∷ 18 ∷ 19 ∷ 20 ∷ 21 ∷ 22 ∷ []) 3000 (loaded_unit image_5) (loaded_cells image_5) ((([]), ([])) ∷ []) ≡ Stopped WrongPlace 2 ∷ []
unfolding run int_wrap image_5
run_5 = refl

image_6 : Parts
image_6 = record {
  code = (4242604031 ∷ 2952790017 ∷ 4242538498 ∷ 4244635649 ∷ 4246732800 ∷ 4246732800 ∷ []);
  memory = ([]);
  inputs = ([]);
  outputs = ([]);
  slots = (0 ∷ []);
  aborts = [];
  pauses = [];
  forks = [];
}

run_6 : seen image_6 (1 ∷ 2 ∷ 3 ∷ 4 ∷ 5 ∷ 6 ∷ 7 ∷ 8 ∷ 9 ∷ 10 ∷ 11 ∷ 12 ∷ 13 ∷ 14 ∷ 15 ∷ 16 ∷ 17 ∷ 18 ∷ 19 ∷ 20 ∷ 21 ∷ 22 ∷ []) 40 (loaded_unit image_6) (loaded_cells image_6) ((([]), ([])) ∷ []) ≡ Stopped Late 1 ∷ []
unfolding run int_wrap image_6
run_6 = refl

image_7 : Parts
image_7 = record {
  code = (4229955584 ∷ 4175429648 ∷ 4232052736 ∷ 4227858690 ∷ 3156475908 ∷ 3087007748 ∷ 4234149889 ∷ 4229955584 ∷ 3156606980 ∷ 3163029544 ∷ 2952790016 ∷ 4242538496 ∷ 4244635668 ∷ 2952790017 ∷ 811794433 ∷ 3087073268 ∷ 4229955584 ∷ 4169138180 ∷ 4236247040 ∷ 3087073244 ∷ 4234149890 ∷ 4236247040 ∷ 3087073220 ∷ 3162701836 ∷ 3154509872 ∷ 812056577 ∷ 4249092096 ∷ 4229955584 ∷ 2952790016 ∷ 811794433 ∷ 4236247040 ∷ 3087007804 ∷ 3156606988 ∷ 2952790017 ∷ 811794433 ∷ 4232052736 ∷ 822345729 ∷ 1082605568 ∷ 814153727 ∷ 3087073228 ∷ 3160932300 ∷ 3160866832 ∷ 4229955584 ∷ 4175429632 ∷ 4229955584 ∷ 3087073276 ∷ 3636670464 ∷ 2952790016 ∷ 811794433 ∷ 4234149888 ∷ 4229955584 ∷ 4229955584 ∷ 3087073236 ∷ []);
  memory = (pos 1 ∷ negsuc 0 ∷ negsuc 0 ∷ pos 0 ∷ pos 1 ∷ pos 1 ∷ []);
  inputs = (4 ∷ []);
  outputs = ([]);
  slots = (5 ∷ 46 ∷ 0 ∷ []);
  aborts = record { weak = false; cond = 37; handler = 46 } ∷ record { weak = false; cond = 37; handler = 6 } ∷ record { weak = true; cond = 24; handler = 9 } ∷ [];
  pauses = record { at = 0; slot = 2; stack = ([]) } ∷ record { at = 7; slot = 0; stack = (1 ∷ []) } ∷ record { at = 16; slot = 0; stack = (1 ∷ 2 ∷ []) } ∷ record { at = 27; slot = 1; stack = (0 ∷ []) } ∷ record { at = 42; slot = 1; stack = (0 ∷ []) } ∷ record { at = 44; slot = 1; stack = (0 ∷ []) } ∷ record { at = 50; slot = 1; stack = (0 ∷ []) } ∷ record { at = 51; slot = 1; stack = (0 ∷ []) } ∷ [];
  forks = record { at = 3; slot = 0; stack = ([]) } ∷ [];
}

run_7 : seen image_7 (100 ∷ 1 ∷ 100 ∷ 1 ∷ 1 ∷ 1 ∷ 1 ∷ 1 ∷ 1 ∷ 1 ∷ 2 ∷ 1 ∷ 1 ∷ 1 ∷ 100 ∷ 2 ∷ 1 ∷ 1 ∷ 1 ∷ 1 ∷ 1 ∷ 100 ∷ []) 3000 (loaded_unit image_7) (loaded_cells image_7) (((negsuc 1940095023 ∷ []), ([])) ∷ ((pos 0 ∷ []), (true ∷ [])) ∷ ((pos 0 ∷ []), (true ∷ [])) ∷ ((negsuc 324187609 ∷ []), (true ∷ [])) ∷ ((pos 1921781853 ∷ []), (true ∷ [])) ∷ []) ≡ Ended 203 ([]) ∷ Ended 404 ([]) ∷ Ended 404 ([]) ∷ Ended 404 ([]) ∷ Ended 404 ([]) ∷ []
unfolding run int_wrap image_7
run_7 = refl

image_8 : Parts
image_8 = record {
  code = (820314111 ∷ 3362271232 ∷ 4249354240 ∷ 3156672700 ∷ 4229955584 ∷ 4227858689 ∷ 2952790016 ∷ 811794433 ∷ 3902799888 ∷ 4242538498 ∷ 4244635699 ∷ 3087073276 ∷ 3906994184 ∷ 814022655 ∷ 822280193 ∷ 3158704156 ∷ 3164995612 ∷ 2952790016 ∷ 3087007752 ∷ 3164864444 ∷ 2952790016 ∷ 811794433 ∷ 3366391808 ∷ 2952790017 ∷ 811794433 ∷ 3087073188 ∷ 2952790017 ∷ 811794433 ∷ 2952790016 ∷ 811794433 ∷ 4177526792 ∷ 4249288704 ∷ 3164799092 ∷ 3154378692 ∷ 2952790016 ∷ 4242538496 ∷ 3906994180 ∷ 4244635711 ∷ 2952790016 ∷ 4242538497 ∷ 4244635685 ∷ 3087073276 ∷ 816381951 ∷ 4244635685 ∷ 3158573076 ∷ 3087073272 ∷ 3158835204 ∷ 822345731 ∷ 3164864516 ∷ 3087073256 ∷ 4229955584 ∷ 4229955584 ∷ 4177526788 ∷ 3156606776 ∷ 4242538497 ∷ 4244635699 ∷ 4242538499 ∷ 4244635703 ∷ 3087007748 ∷ 4244635703 ∷ 3087073276 ∷ 3160866884 ∷ 4229955584 ∷ 3164930100 ∷ 4234149888 ∷ 3370389504 ∷ 816054275 ∷ 4236247040 ∷ 3087007784 ∷ 2952790016 ∷ 4242538497 ∷ 4244635721 ∷ 4246732800 ∷ 4229955584 ∷ 4229955584 ∷ 4236247040 ∷ 3087073220 ∷ 4229955584 ∷ 4232052736 ∷ []);
  memory = (negsuc 0 ∷ pos 1 ∷ pos 0 ∷ pos 1 ∷ pos 0 ∷ pos 1 ∷ []);
  inputs = (5 ∷ []);
  outputs = (0 ∷ []);
  slots = (4 ∷ 63 ∷ []);
  aborts = record { weak = true; cond = 28; handler = 61 } ∷ [];
  pauses = record { at = 4; slot = 0; stack = ([]) } ∷ record { at = 50; slot = 0; stack = ([]) } ∷ record { at = 51; slot = 0; stack = ([]) } ∷ record { at = 62; slot = 1; stack = ([]) } ∷ record { at = 73; slot = 1; stack = (0 ∷ []) } ∷ record { at = 74; slot = 1; stack = (0 ∷ []) } ∷ record { at = 77; slot = 1; stack = ([]) } ∷ [];
  forks = record { at = 5; slot = 0; stack = ([]) } ∷ [];
}

run_8 : seen image_8 (6 ∷ 1 ∷ 6 ∷ 1 ∷ 2 ∷ 8 ∷ 5 ∷ 3 ∷ 3 ∷ 1 ∷ 4 ∷ 5 ∷ 6 ∷ 6 ∷ 7 ∷ 9 ∷ 5 ∷ 7 ∷ 9 ∷ 5 ∷ 2 ∷ 2 ∷ []) 300 (loaded_unit image_8) (loaded_cells image_8) (((pos 1 ∷ []), ([])) ∷ ((pos 0 ∷ []), (true ∷ true ∷ [])) ∷ ((pos 0 ∷ []), (false ∷ [])) ∷ ((pos 5 ∷ []), (false ∷ [])) ∷ ((pos 6 ∷ []), (false ∷ [])) ∷ []) ≡ Ended 11 (negsuc 0 ∷ []) ∷ Ended 86 (negsuc 0 ∷ []) ∷ Ended 94 (negsuc 0 ∷ []) ∷ Ended 94 (negsuc 0 ∷ []) ∷ Ended 94 (negsuc 0 ∷ []) ∷ []
unfolding run int_wrap image_8
run_8 = refl

image_9 : Parts
image_9 = record {
  code = (2952806178 ∷ 1143013376 ∷ 1149445120 ∷ 340008961 ∷ 3158310940 ∷ 3626178560 ∷ 2283864064 ∷ 2149851136 ∷ 341839873 ∷ 1076035584 ∷ 3162701796 ∷ 3628204032 ∷ 1073938432 ∷ 4229955584 ∷ 3087073224 ∷ []);
  memory = (pos 2147483647 ∷ pos 2147483647 ∷ pos 5 ∷ pos 0 ∷ []);
  inputs = (0 ∷ 1 ∷ []);
  outputs = (1 ∷ 2 ∷ 3 ∷ []);
  slots = (0 ∷ []);
  aborts = [];
  pauses = record { at = 13; slot = 0; stack = ([]) } ∷ [];
  forks = [];
}

run_9 : seen image_9 (7 ∷ 2 ∷ 1 ∷ 2 ∷ 4 ∷ 4 ∷ 6 ∷ 1 ∷ 2 ∷ 3 ∷ 9 ∷ 1 ∷ 9 ∷ 2 ∷ 8 ∷ 9 ∷ 4 ∷ 7 ∷ 2 ∷ 7 ∷ 4 ∷ 2 ∷ []) 300 (loaded_unit image_9) (loaded_cells image_9) (((negsuc 0 ∷ negsuc 0 ∷ []), ([])) ∷ []) ≡ Stopped WrongPlace 1 ∷ []
unfolding run int_wrap image_9
run_9 = refl

image_10 : Parts
image_10 = record {
  code = (4242538498 ∷ 4244635657 ∷ 3909091332 ∷ 3160932372 ∷ 3904897040 ∷ 279257088 ∷ 4173332484 ∷ 3087073256 ∷ 4246732800 ∷ 822345728 ∷ 4240441344 ∷ 4242538497 ∷ 4244635676 ∷ 3898605572 ∷ 3160604724 ∷ 2952790016 ∷ 4242538498 ∷ 4244635674 ∷ 3902799888 ∷ 2762276865 ∷ 3162832916 ∷ 3898605584 ∷ 1214584832 ∷ 1223045120 ∷ 3087073252 ∷ 4246732800 ∷ 3087073224 ∷ 4246732800 ∷ 4240441344 ∷ 3904897032 ∷ 3164995600 ∷ 4238344203 ∷ 4229955584 ∷ 3087007752 ∷ 4238344192 ∷ 4242538498 ∷ 4244635728 ∷ 3909091332 ∷ 2768764929 ∷ 2952790016 ∷ 3165126812 ∷ 4242538501 ∷ 4244635726 ∷ 3909091340 ∷ 2768764929 ∷ 3158835328 ∷ 4238344192 ∷ 4242538499 ∷ 4244635724 ∷ 3898605568 ∷ 3162701924 ∷ 3156541460 ∷ 2952855550 ∷ 2762473468 ∷ 2952790016 ∷ 3087007816 ∷ 4238344192 ∷ 3900702720 ∷ 3158573076 ∷ 822607874 ∷ 822673407 ∷ 4175429632 ∷ 3087007756 ∷ 3904897024 ∷ 3898605576 ∷ 3904897028 ∷ 3158704144 ∷ 4175429640 ∷ 3904897032 ∷ 3087007760 ∷ 818282498 ∷ 1158103040 ∷ 3900702736 ∷ 2952855551 ∷ 3087073176 ∷ 4246732800 ∷ 3087073144 ∷ 4246732800 ∷ 3087073112 ∷ 4246732800 ∷ 4229955584 ∷ 2952855551 ∷ 3087073068 ∷ 4232052736 ∷ []);
  memory = (pos 1 ∷ negsuc 0 ∷ pos 0 ∷ pos 0 ∷ pos 0 ∷ []);
  inputs = (3 ∷ 1 ∷ []);
  outputs = (0 ∷ []);
  slots = (29 ∷ []);
  aborts = [];
  pauses = record { at = 32; slot = 0; stack = ([]) } ∷ record { at = 80; slot = 0; stack = ([]) } ∷ [];
  forks = [];
}

run_10 : seen image_10 (1 ∷ 1 ∷ 1 ∷ 1 ∷ 100 ∷ 1 ∷ 100 ∷ 1 ∷ 100 ∷ 1 ∷ 2 ∷ 1 ∷ 2 ∷ 1 ∷ 1 ∷ 1 ∷ 2 ∷ 100 ∷ 2 ∷ 1 ∷ 1 ∷ 1 ∷ []) 40 (loaded_unit image_10) (loaded_cells image_10) (((pos 4 ∷ pos 1 ∷ []), ([])) ∷ []) ≡ Stopped Late 30 ∷ []
unfolding run int_wrap image_10
run_10 = refl

image_11 : Parts
image_11 = record {
  code = (3640993792 ∷ 3162898436 ∷ 4240441344 ∷ 3639023616 ∷ 4229955584 ∷ 4238344194 ∷ 818413571 ∷ 4238344219 ∷ 4238344222 ∷ 3087007920 ∷ 4227858689 ∷ 3156738152 ∷ 4229955584 ∷ 3087073268 ∷ 2952790017 ∷ 811794433 ∷ 2952790016 ∷ 811794433 ∷ 4229955584 ∷ 3087073268 ∷ 3156475920 ∷ 3164798992 ∷ 4232052736 ∷ 4227858945 ∷ 4229955584 ∷ 3087073276 ∷ 3160932368 ∷ 3087007756 ∷ 4240441344 ∷ 3372685312 ∷ 3904897024 ∷ 2952790016 ∷ 4242538497 ∷ 4244635676 ∷ 3087073276 ∷ 814219265 ∷ 4229955584 ∷ 3087073184 ∷ 3162832976 ∷ 3156672516 ∷ 3898605572 ∷ 3636865024 ∷ 4249092096 ∷ 3898605576 ∷ 822607875 ∷ 4238344220 ∷ 4238344194 ∷ 4229955584 ∷ 4229955584 ∷ 4229955584 ∷ 3087073268 ∷ 4229955584 ∷ 4229955584 ∷ 3087073272 ∷ 279384064 ∷ 3156738056 ∷ 275056640 ∷ 816316417 ∷ 4249354240 ∷ []);
  memory = (negsuc 0 ∷ pos 1 ∷ pos 0 ∷ negsuc 0 ∷ negsuc 0 ∷ pos 1 ∷ []);
  inputs = ([]);
  outputs = (5 ∷ []);
  slots = (36 ∷ 25 ∷ 7 ∷ []);
  aborts = record { weak = false; cond = 38; handler = 10 } ∷ record { weak = true; cond = 41; handler = 35 } ∷ [];
  pauses = record { at = 4; slot = 2; stack = ([]) } ∷ record { at = 12; slot = 0; stack = ([]) } ∷ record { at = 18; slot = 0; stack = (1 ∷ []) } ∷ record { at = 24; slot = 1; stack = ([]) } ∷ record { at = 36; slot = 0; stack = ([]) } ∷ record { at = 47; slot = 0; stack = (0 ∷ []) } ∷ record { at = 48; slot = 0; stack = (0 ∷ []) } ∷ record { at = 49; slot = 0; stack = (0 ∷ []) } ∷ record { at = 51; slot = 2; stack = ([]) } ∷ record { at = 52; slot = 2; stack = ([]) } ∷ [];
  forks = record { at = 10; slot = 0; stack = ([]) } ∷ record { at = 23; slot = 1; stack = ([]) } ∷ [];
}

run_11 : seen image_11 (1 ∷ 9 ∷ 2 ∷ 8 ∷ 3 ∷ 4 ∷ 2 ∷ 1 ∷ 7 ∷ 8 ∷ 2 ∷ 4 ∷ 1 ∷ 6 ∷ 9 ∷ 3 ∷ 2 ∷ 6 ∷ 8 ∷ 3 ∷ 7 ∷ 8 ∷ []) 3000 (loaded_unit image_11) (loaded_cells image_11) ((([]), ([])) ∷ (([]), ([])) ∷ (([]), ([])) ∷ (([]), ([])) ∷ (([]), ([])) ∷ []) ≡ Ended 20 (pos 1 ∷ []) ∷ Ended 25 (pos 1 ∷ []) ∷ Ended 21 (pos 1 ∷ []) ∷ Ended 21 (pos 1 ∷ []) ∷ Ended 21 (pos 1 ∷ []) ∷ []
unfolding run int_wrap image_11
run_11 = refl

image_12 : Parts
image_12 = record {
  code = (1149372416 ∷ 3624015872 ∷ 1147406336 ∷ 3892314128 ∷ 2952841829 ∷ 2688679935 ∷ 343998464 ∷ 2822963201 ∷ 343998464 ∷ 811663359 ∷ 3896508418 ∷ 3894411280 ∷ 344006656 ∷ 4229955584 ∷ 3087073224 ∷ []);
  memory = (pos 0 ∷ pos 2147483647 ∷ negsuc 2147483647 ∷ pos 2147483647 ∷ []);
  inputs = (0 ∷ 1 ∷ []);
  outputs = (1 ∷ 2 ∷ 3 ∷ []);
  slots = (0 ∷ []);
  aborts = [];
  pauses = record { at = 13; slot = 0; stack = ([]) } ∷ [];
  forks = [];
}

run_12 : seen image_12 (123 ∷ 156 ∷ 99 ∷ 139 ∷ 8 ∷ 165 ∷ 186 ∷ 22 ∷ 248 ∷ 50 ∷ 250 ∷ 202 ∷ 170 ∷ 67 ∷ 92 ∷ 241 ∷ 93 ∷ 222 ∷ 177 ∷ 99 ∷ 173 ∷ 80 ∷ []) 40 (loaded_unit image_12) (loaded_cells image_12) (((negsuc 0 ∷ pos 0 ∷ []), ([])) ∷ []) ≡ Stopped Late 0 ∷ []
unfolding run int_wrap image_12
run_12 = refl

image_13 : Parts
image_13 = record {
  code = (4234149888 ∷ 1151746560 ∷ 4236247040 ∷ 4232052736 ∷ 4249157632 ∷ []);
  memory = (pos 5 ∷ pos 1 ∷ pos 0 ∷ pos 1 ∷ negsuc 0 ∷ []);
  inputs = (0 ∷ 4 ∷ []);
  outputs = (2 ∷ []);
  slots = (0 ∷ []);
  aborts = record { weak = false; cond = 4; handler = 3 } ∷ [];
  pauses = [];
  forks = [];
}

run_13 : seen image_13 (100 ∷ 1 ∷ 100 ∷ 100 ∷ 1 ∷ 2 ∷ 1 ∷ 1 ∷ 2 ∷ 2 ∷ 2 ∷ 100 ∷ 2 ∷ 2 ∷ 100 ∷ 1 ∷ 100 ∷ 1 ∷ 1 ∷ 1 ∷ 2 ∷ 1 ∷ []) 3000 (loaded_unit image_13) (loaded_cells image_13) (((pos 1 ∷ negsuc 6 ∷ []), ([])) ∷ ((negsuc 0 ∷ pos 1 ∷ []), ([])) ∷ ((negsuc 1142341703 ∷ pos 4 ∷ []), ([])) ∷ ((negsuc 0 ∷ pos 820006544 ∷ []), ([])) ∷ ((pos 983328650 ∷ pos 1 ∷ []), ([])) ∷ []) ≡ Ended 109 (pos 0 ∷ []) ∷ Ended 4 (pos 0 ∷ []) ∷ Ended 4 (pos 0 ∷ []) ∷ Ended 4 (pos 0 ∷ []) ∷ Ended 4 (pos 0 ∷ []) ∷ []
unfolding run int_wrap image_13
run_13 = refl

image_14 : Parts
image_14 = record {
  code = (3164995604 ∷ 816185345 ∷ 822411263 ∷ 2952790016 ∷ 811794433 ∷ 3087007792 ∷ 3156410400 ∷ 2952790016 ∷ 4242538497 ∷ 4244635662 ∷ 3154313220 ∷ 4246732800 ∷ 4232052736 ∷ 4229955584 ∷ 4229955584 ∷ 3087073272 ∷ 3156606980 ∷ 4249288704 ∷ 4227858689 ∷ 3154509828 ∷ 4229955584 ∷ 3087073276 ∷ []);
  memory = (negsuc 0 ∷ pos 1 ∷ pos 0 ∷ negsuc 0 ∷ pos 0 ∷ negsuc 0 ∷ []);
  inputs = (1 ∷ []);
  outputs = (2 ∷ []);
  slots = (20 ∷ 14 ∷ []);
  aborts = [];
  pauses = record { at = 13; slot = 1; stack = ([]) } ∷ record { at = 14; slot = 1; stack = ([]) } ∷ record { at = 20; slot = 0; stack = ([]) } ∷ [];
  forks = record { at = 18; slot = 0; stack = ([]) } ∷ [];
}

run_14 : seen image_14 (1 ∷ 1 ∷ 1 ∷ 1 ∷ 1 ∷ 1 ∷ 1 ∷ 1 ∷ 1 ∷ 1 ∷ 1 ∷ 1 ∷ 1 ∷ 1 ∷ 1 ∷ 1 ∷ 1 ∷ 1 ∷ 1 ∷ 1 ∷ 1 ∷ 1 ∷ []) 40 (loaded_unit image_14) (loaded_cells image_14) (((negsuc 0 ∷ []), ([])) ∷ ((negsuc 0 ∷ []), ([])) ∷ ((negsuc 0 ∷ []), ([])) ∷ ((negsuc 0 ∷ []), ([])) ∷ ((negsuc 1504511744 ∷ []), ([])) ∷ []) ≡ Ended 4 (pos 0 ∷ []) ∷ Ended 5 (pos 0 ∷ []) ∷ Ended 5 (pos 0 ∷ []) ∷ Ended 5 (pos 0 ∷ []) ∷ Ended 5 (pos 0 ∷ []) ∷ []
unfolding run int_wrap image_14
run_14 = refl

image_15 : Parts
image_15 = record {
  code = (276826112 ∷ 1207961600 ∷ 3158441988 ∷ 2151878656 ∷ 1147277312 ∷ 1210191872 ∷ 1212422144 ∷ 1216550912 ∷ 2751692800 ∷ 4229955584 ∷ 3087073240 ∷ []);
  memory = (negsuc 2147483647 ∷ negsuc 6 ∷ pos 3 ∷ pos 3 ∷ []);
  inputs = (0 ∷ 1 ∷ []);
  outputs = (1 ∷ 2 ∷ 3 ∷ []);
  slots = (0 ∷ []);
  aborts = [];
  pauses = record { at = 9; slot = 0; stack = ([]) } ∷ [];
  forks = [];
}

run_15 : seen image_15 (104 ∷ 199 ∷ 222 ∷ 208 ∷ 255 ∷ 17 ∷ 126 ∷ 246 ∷ 242 ∷ 215 ∷ 5 ∷ 51 ∷ 36 ∷ 137 ∷ 45 ∷ 158 ∷ 241 ∷ 201 ∷ 177 ∷ 217 ∷ 185 ∷ 5 ∷ []) 3000 (loaded_unit image_15) (loaded_cells image_15) (((pos 0 ∷ pos 0 ∷ []), (false ∷ [])) ∷ ((negsuc 876939958 ∷ pos 1 ∷ []), (false ∷ [])) ∷ ((negsuc 0 ∷ negsuc 0 ∷ []), (false ∷ [])) ∷ ((negsuc 0 ∷ pos 6 ∷ []), (false ∷ [])) ∷ ((negsuc 0 ∷ pos 0 ∷ []), (false ∷ [])) ∷ []) ≡ Ended 1639 (pos 0 ∷ pos 3 ∷ pos 3 ∷ []) ∷ Ended 1885 (pos 1 ∷ pos 3 ∷ pos 3 ∷ []) ∷ Ended 1885 (negsuc 0 ∷ pos 3 ∷ pos 3 ∷ []) ∷ Ended 1885 (pos 6 ∷ pos 3 ∷ pos 3 ∷ []) ∷ Ended 1885 (pos 0 ∷ pos 3 ∷ pos 3 ∷ []) ∷ []
unfolding run int_wrap image_15
run_15 = refl

image_16 : Parts
image_16 = record {
  code = (4229955584 ∷ 4229955584 ∷ 3372761088 ∷ 4229955584 ∷ 3087007744 ∷ 3158835436 ∷ 4242538499 ∷ 4244635675 ∷ 3087073276 ∷ 4238344268 ∷ 3087073268 ∷ 2952790016 ∷ 811794433 ∷ 4232052736 ∷ 4242538498 ∷ 4244635714 ∷ 3154640900 ∷ 4173332480 ∷ 3087073268 ∷ 4229955584 ∷ 4242538497 ∷ 4244635718 ∷ 2952790016 ∷ 811794433 ∷ 4238344266 ∷ 3087073264 ∷ 4227858946 ∷ 4234149888 ∷ 4229955584 ∷ 3087007880 ∷ 4242538496 ∷ 4244635724 ∷ 4244635724 ∷ 3087073276 ∷ 4244635722 ∷ 4244635724 ∷ 2952790017 ∷ 811794433 ∷ 3087073264 ∷ 1086724096 ∷ 4229955584 ∷ 4238344267 ∷ 4236247040 ∷ 4234149889 ∷ 4238344265 ∷ 4229955584 ∷ 3087073264 ∷ 4229955584 ∷ 811925505 ∷ 2952790017 ∷ 811794433 ∷ 4232052736 ∷ 3158835204 ∷ 4249026560 ∷ 1080360960 ∷ 4249288704 ∷ 4238344263 ∷ 2952790017 ∷ 811794433 ∷ 3906994176 ∷ 3900702732 ∷ 3164930056 ∷ 4173332500 ∷ 4236247040 ∷ 3087007748 ∷ 4234149888 ∷ 4234149889 ∷ 4229955584 ∷ 3087073276 ∷ 820510719 ∷ 4232052736 ∷ 818413571 ∷ 3158835204 ∷ 4240441344 ∷ 3156410376 ∷ 3902799872 ∷ 4240441344 ∷ []);
  memory = (pos 1 ∷ pos 0 ∷ pos 0 ∷ negsuc 0 ∷ pos 0 ∷ negsuc 0 ∷ []);
  inputs = ([]);
  outputs = (5 ∷ 4 ∷ []);
  slots = (69 ∷ 65 ∷ 51 ∷ 3 ∷ []);
  aborts = record { weak = true; cond = 53; handler = 65 } ∷ record { weak = true; cond = 54; handler = 43 } ∷ [];
  pauses = record { at = 0; slot = 3; stack = ([]) } ∷ record { at = 1; slot = 3; stack = ([]) } ∷ record { at = 3; slot = 3; stack = ([]) } ∷ record { at = 19; slot = 0; stack = ([]) } ∷ record { at = 28; slot = 1; stack = (0 ∷ []) } ∷ record { at = 40; slot = 1; stack = (0 ∷ 1 ∷ []) } ∷ record { at = 45; slot = 1; stack = (0 ∷ 1 ∷ []) } ∷ record { at = 47; slot = 2; stack = ([]) } ∷ record { at = 67; slot = 1; stack = (0 ∷ 1 ∷ []) } ∷ [];
  forks = record { at = 26; slot = 1; stack = ([]) } ∷ [];
}

run_16 : seen image_16 (1 ∷ 1 ∷ 1 ∷ 1 ∷ 1 ∷ 1 ∷ 1 ∷ 1 ∷ 1 ∷ 1 ∷ 1 ∷ 1 ∷ 1 ∷ 1 ∷ 1 ∷ 1 ∷ 1 ∷ 1 ∷ 1 ∷ 1 ∷ 1 ∷ 1 ∷ []) 3000 (loaded_unit image_16) (loaded_cells image_16) ((([]), ([])) ∷ (([]), ([])) ∷ (([]), ([])) ∷ (([]), ([])) ∷ (([]), ([])) ∷ []) ≡ Ended 5 (negsuc 0 ∷ pos 0 ∷ []) ∷ Ended 3 (negsuc 0 ∷ pos 0 ∷ []) ∷ Ended 3 (negsuc 0 ∷ pos 0 ∷ []) ∷ Ended 3 (negsuc 0 ∷ pos 0 ∷ []) ∷ Ended 3 (negsuc 0 ∷ pos 0 ∷ []) ∷ []
unfolding run int_wrap image_16
run_16 = refl

image_17 : Parts
image_17 = record {
  code = (4167041036 ∷ 4240441344 ∷ 3902799872 ∷ 2762276867 ∷ 3156541452 ∷ 4227858690 ∷ 3087073264 ∷ 4232052736 ∷ 4227859202 ∷ 820248576 ∷ 3902799876 ∷ 4232052736 ∷ 4171235348 ∷ 2160601088 ∷ 4232052736 ∷ 4229955584 ∷ 4242538499 ∷ 4244635681 ∷ 3902799888 ∷ 2762276867 ∷ 4242538498 ∷ 4242538499 ∷ 4244635679 ∷ 3904897048 ∷ 2764439555 ∷ 3156606996 ∷ 3162701836 ∷ 3902799896 ∷ 1157966336 ∷ 3087073252 ∷ 4246732800 ∷ 3087073224 ∷ 4246732800 ∷ 4234149888 ∷ 4229955584 ∷ 822345728 ∷ 4236247040 ∷ 4232052736 ∷ 3902799872 ∷ 4249157632 ∷ 3904897048 ∷ 822476802 ∷ 4232052736 ∷ []);
  memory = (negsuc 0 ∷ negsuc 0 ∷ pos 5 ∷ pos 0 ∷ pos 1 ∷ negsuc 0 ∷ pos 0 ∷ negsuc 0 ∷ []);
  inputs = (4 ∷ 0 ∷ []);
  outputs = (5 ∷ 6 ∷ []);
  slots = (2 ∷ 8 ∷ 12 ∷ 15 ∷ 40 ∷ []);
  aborts = record { weak = true; cond = 38; handler = 37 } ∷ [];
  pauses = record { at = 15; slot = 3; stack = ([]) } ∷ record { at = 34; slot = 3; stack = (0 ∷ []) } ∷ [];
  forks = record { at = 5; slot = 0; stack = ([]) } ∷ record { at = 8; slot = 1; stack = ([]) } ∷ [];
}

run_17 : seen image_17 (152 ∷ 24 ∷ 133 ∷ 28 ∷ 134 ∷ 3 ∷ 50 ∷ 242 ∷ 148 ∷ 231 ∷ 181 ∷ 142 ∷ 196 ∷ 46 ∷ 116 ∷ 119 ∷ 115 ∷ 220 ∷ 130 ∷ 36 ∷ 138 ∷ 141 ∷ []) 3000 (loaded_unit image_17) (loaded_cells image_17) (((negsuc 0 ∷ pos 0 ∷ []), (false ∷ [])) ∷ ((negsuc 8 ∷ negsuc 0 ∷ []), (false ∷ false ∷ [])) ∷ []) ≡ Ended 2344 (pos 0 ∷ pos 0 ∷ []) ∷ Stopped Late 25 ∷ []
unfolding run int_wrap image_17
run_17 = refl

image_18 : Parts
image_18 = record {
  code = (2153908224 ∷ 1080231936 ∷ 2755919871 ∷ 1140989952 ∷ 3156344828 ∷ 2283868160 ∷ 4169138180 ∷ 3164864496 ∷ 4229955584 ∷ 3087073244 ∷ []);
  memory = (pos 3 ∷ negsuc 6 ∷ negsuc 6 ∷ pos 0 ∷ []);
  inputs = (0 ∷ 1 ∷ []);
  outputs = (1 ∷ 2 ∷ 3 ∷ []);
  slots = (0 ∷ []);
  aborts = [];
  pauses = record { at = 8; slot = 0; stack = ([]) } ∷ [];
  forks = [];
}

run_18 : seen image_18 (100 ∷ 1 ∷ 100 ∷ 2 ∷ 2 ∷ 2 ∷ 2 ∷ 1 ∷ 2 ∷ 100 ∷ 1 ∷ 100 ∷ 1 ∷ 1 ∷ 1 ∷ 100 ∷ 1 ∷ 100 ∷ 100 ∷ 1 ∷ 1 ∷ 2 ∷ []) 3000 (loaded_unit image_18) (loaded_cells image_18) (((pos 8 ∷ negsuc 4 ∷ []), (false ∷ true ∷ false ∷ true ∷ false ∷ true ∷ false ∷ true ∷ false ∷ true ∷ false ∷ true ∷ false ∷ true ∷ false ∷ true ∷ false ∷ true ∷ false ∷ true ∷ false ∷ true ∷ false ∷ true ∷ false ∷ true ∷ [])) ∷ []) ≡ Stopped Late 4 ∷ []
unfolding run int_wrap image_18
run_18 = refl

image_19 : Parts
image_19 = record {
  code = (4175429652 ∷ 3900702740 ∷ 1216749568 ∷ 4232052736 ∷ 3904897024 ∷ 2952790016 ∷ 3160801316 ∷ 3904897040 ∷ 2764439555 ∷ 3162898456 ∷ 3906994180 ∷ 1147548160 ∷ 1158168576 ∷ 2952790016 ∷ 2764439548 ∷ 4242538498 ∷ 4244635667 ∷ 4171235328 ∷ 3087073272 ∷ 4240441344 ∷ 3898605580 ∷ 4240441344 ∷ 818479103 ∷ 3909091328 ∷ 2952790016 ∷ 814153725 ∷ 822345727 ∷ 348602369 ∷ 350697473 ∷ 4169138184 ∷ 4240441344 ∷ []);
  memory = (pos 1 ∷ negsuc 0 ∷ pos 5 ∷ negsuc 0 ∷ pos 0 ∷ pos 1 ∷ []);
  inputs = ([]);
  outputs = ([]);
  slots = (0 ∷ []);
  aborts = [];
  pauses = [];
  forks = [];
}

run_19 : seen image_19 (2 ∷ 2 ∷ 100 ∷ 100 ∷ 1 ∷ 1 ∷ 1 ∷ 1 ∷ 100 ∷ 1 ∷ 1 ∷ 2 ∷ 100 ∷ 100 ∷ 2 ∷ 2 ∷ 2 ∷ 1 ∷ 100 ∷ 2 ∷ 1 ∷ 100 ∷ []) 40 (loaded_unit image_19) (loaded_cells image_19) ((([]), ([])) ∷ []) ≡ Stopped Late 0 ∷ []
unfolding run int_wrap image_19
run_19 = refl

image_20 : Parts
image_20 = record {
  code = (4234149888 ∷ 2952790016 ∷ 3164799104 ∷ 4242538498 ∷ 4234149890 ∷ 4229955584 ∷ 4229955584 ∷ 4236247040 ∷ 4234149891 ∷ 4229955584 ∷ 3902799888 ∷ 350498816 ∷ 4229955584 ∷ 3087073268 ∷ 1147475968 ∷ 4236247040 ∷ 4236247040 ∷ 3904897036 ∷ 2952790016 ∷ 3164995624 ∷ 3898605580 ∷ 2952790016 ∷ 3154313232 ∷ 1080371200 ∷ 4177526788 ∷ 4175429632 ∷ 2952790017 ∷ 2691170304 ∷ 3087007768 ∷ 3902799872 ∷ 4169138176 ∷ 4169138180 ∷ 1220941824 ∷ 4229955584 ∷ 4236247040 ∷ 4177526784 ∷ 4169138184 ∷ 4229955584 ∷ 2952855551 ∷ 3087073124 ∷ 4232052736 ∷ 3898605576 ∷ 2757951491 ∷ 4249026560 ∷ 4249223168 ∷ 3898605584 ∷ 2757951491 ∷ 2952790016 ∷ 3164798984 ∷ 4171235328 ∷ 4249026560 ∷ 3904897040 ∷ 2764439555 ∷ 3158704140 ∷ 2952790016 ∷ 2833711103 ∷ 4249026560 ∷ []);
  memory = (pos 0 ∷ pos 1 ∷ pos 5 ∷ pos 1 ∷ pos 5 ∷ []);
  inputs = (2 ∷ []);
  outputs = ([]);
  slots = (0 ∷ []);
  aborts = record { weak = false; cond = 41; handler = 35 } ∷ record { weak = false; cond = 44; handler = 17 } ∷ record { weak = true; cond = 45; handler = 8 } ∷ record { weak = true; cond = 51; handler = 16 } ∷ [];
  pauses = record { at = 5; slot = 0; stack = (0 ∷ 1 ∷ 2 ∷ []) } ∷ record { at = 6; slot = 0; stack = (0 ∷ 1 ∷ 2 ∷ []) } ∷ record { at = 9; slot = 0; stack = (0 ∷ 1 ∷ 3 ∷ []) } ∷ record { at = 12; slot = 0; stack = (0 ∷ 1 ∷ 3 ∷ []) } ∷ record { at = 33; slot = 0; stack = (0 ∷ []) } ∷ record { at = 37; slot = 0; stack = ([]) } ∷ [];
  forks = [];
}

run_20 : seen image_20 (1 ∷ 1 ∷ 1 ∷ 1 ∷ 1 ∷ 1 ∷ 1 ∷ 1 ∷ 1 ∷ 1 ∷ 1 ∷ 1 ∷ 1 ∷ 1 ∷ 1 ∷ 1 ∷ 1 ∷ 1 ∷ 1 ∷ 1 ∷ 1 ∷ 1 ∷ []) 300 (loaded_unit image_20) (loaded_cells image_20) (((pos 0 ∷ []), (true ∷ [])) ∷ ((pos 1 ∷ []), (true ∷ [])) ∷ ((pos 1 ∷ []), (true ∷ [])) ∷ ((negsuc 0 ∷ []), (true ∷ [])) ∷ ((negsuc 311935751 ∷ []), (true ∷ [])) ∷ []) ≡ Ended 9 ([]) ∷ Ended 11 ([]) ∷ Ended 11 ([]) ∷ Ended 11 ([]) ∷ Ended 11 ([]) ∷ []
unfolding run int_wrap image_20
run_20 = refl

image_21 : Parts
image_21 = record {
  code = (811794431 ∷ 3164799004 ∷ 2290354176 ∷ 3164667892 ∷ 3364028416 ∷ 2216755200 ∷ 811859969 ∷ 1149436928 ∷ 4229955584 ∷ 3087073244 ∷ []);
  memory = (pos 3 ∷ negsuc 6 ∷ pos 0 ∷ pos 5 ∷ []);
  inputs = (0 ∷ 1 ∷ []);
  outputs = (1 ∷ 2 ∷ 3 ∷ []);
  slots = (0 ∷ []);
  aborts = [];
  pauses = record { at = 8; slot = 0; stack = ([]) } ∷ [];
  forks = [];
}

run_21 : seen image_21 (1 ∷ 1 ∷ 1 ∷ 1 ∷ 1 ∷ 1 ∷ 1 ∷ 1 ∷ 1 ∷ 1 ∷ 1 ∷ 1 ∷ 1 ∷ 1 ∷ 1 ∷ 1 ∷ 1 ∷ 1 ∷ 1 ∷ 1 ∷ 1 ∷ 1 ∷ []) 40 (loaded_unit image_21) (loaded_cells image_21) (((negsuc 201315441 ∷ pos 1 ∷ []), (false ∷ true ∷ false ∷ true ∷ false ∷ true ∷ false ∷ true ∷ false ∷ true ∷ false ∷ true ∷ false ∷ true ∷ false ∷ true ∷ false ∷ [])) ∷ []) ≡ Stopped Late 2 ∷ []
unfolding run int_wrap image_21
run_21 = refl

image_22 : Parts
image_22 = record {
  code = (3909091328 ∷ 3902799884 ∷ 2762276865 ∷ 3162832908 ∷ 2762276865 ∷ 3087073264 ∷ 4229955584 ∷ 3087073252 ∷ 4232052736 ∷ []);
  memory = (pos 1 ∷ pos 0 ∷ pos 5 ∷ pos 1 ∷ negsuc 0 ∷ []);
  inputs = (3 ∷ 1 ∷ []);
  outputs = (2 ∷ []);
  slots = (0 ∷ []);
  aborts = [];
  pauses = record { at = 4; slot = 0; stack = ([]) } ∷ record { at = 6; slot = 0; stack = ([]) } ∷ [];
  forks = [];
}

run_22 : seen image_22 (13 ∷ 88 ∷ 137 ∷ 231 ∷ 9 ∷ 108 ∷ 237 ∷ 65 ∷ 130 ∷ 73 ∷ 133 ∷ 226 ∷ 105 ∷ 102 ∷ 170 ∷ 237 ∷ 235 ∷ 48 ∷ 79 ∷ 145 ∷ 96 ∷ 102 ∷ []) 300 (loaded_unit image_22) (loaded_cells image_22) (((pos 1 ∷ pos 0 ∷ []), ([])) ∷ []) ≡ Stopped Late 0 ∷ []
unfolding run int_wrap image_22
run_22 = refl

image_23 : Parts
image_23 = record {
  code = (3906994184 ∷ 4229955584 ∷ 3087073272 ∷ 4232052736 ∷ 3906994180 ∷ 4242538497 ∷ 4244635660 ∷ 3904897044 ∷ 3156606988 ∷ 816381951 ∷ 3087073264 ∷ 4246732800 ∷ 4240441344 ∷ 4238344196 ∷ 1147542528 ∷ 4175429640 ∷ 4240441344 ∷ 2952790016 ∷ 4242538497 ∷ 4244635673 ∷ 3158769680 ∷ 820314111 ∷ 1155744256 ∷ 3087073264 ∷ 4246732800 ∷ 814219265 ∷ 4240441344 ∷ []);
  memory = (pos 0 ∷ pos 0 ∷ pos 0 ∷ pos 0 ∷ pos 0 ∷ negsuc 0 ∷ pos 5 ∷ []);
  inputs = (2 ∷ []);
  outputs = ([]);
  slots = (0 ∷ []);
  aborts = [];
  pauses = record { at = 1; slot = 0; stack = ([]) } ∷ [];
  forks = [];
}

run_23 : seen image_23 (1 ∷ 1 ∷ 1 ∷ 1 ∷ 1 ∷ 1 ∷ 1 ∷ 1 ∷ 1 ∷ 1 ∷ 1 ∷ 1 ∷ 1 ∷ 1 ∷ 1 ∷ 1 ∷ 1 ∷ 1 ∷ 1 ∷ 1 ∷ 1 ∷ 1 ∷ []) 3000 (loaded_unit image_23) (loaded_cells image_23) (((negsuc 6 ∷ []), ([])) ∷ ((pos 1 ∷ []), ([])) ∷ ((pos 1 ∷ []), ([])) ∷ ((pos 0 ∷ []), ([])) ∷ ((pos 0 ∷ []), ([])) ∷ []) ≡ Ended 4 ([]) ∷ Ended 5 ([]) ∷ Ended 5 ([]) ∷ Ended 5 ([]) ∷ Ended 5 ([]) ∷ []
unfolding run int_wrap image_23
run_23 = refl

image_24 : Parts
image_24 = record {
  code = (4162846724 ∷ 2283864064 ∷ 3158376488 ∷ 3158442016 ∷ 3162505228 ∷ 2684387328 ∷ 3160604688 ∷ 1147146752 ∷ 2952843454 ∷ 3156410348 ∷ 344064001 ∷ 1078067200 ∷ 4229955584 ∷ 3087073228 ∷ []);
  memory = (negsuc 6 ∷ pos 0 ∷ pos 5 ∷ pos 3 ∷ []);
  inputs = (0 ∷ 1 ∷ []);
  outputs = (1 ∷ 2 ∷ 3 ∷ []);
  slots = (0 ∷ []);
  aborts = [];
  pauses = record { at = 12; slot = 0; stack = ([]) } ∷ [];
  forks = [];
}

run_24 : seen image_24 (8 ∷ 5 ∷ 5 ∷ 9 ∷ 5 ∷ 4 ∷ 2 ∷ 8 ∷ 3 ∷ 3 ∷ 6 ∷ 8 ∷ 4 ∷ 3 ∷ 8 ∷ 9 ∷ 5 ∷ 9 ∷ 4 ∷ 9 ∷ 4 ∷ 2 ∷ []) 300 (loaded_unit image_24) (loaded_cells image_24) (((pos 1 ∷ pos 0 ∷ []), (false ∷ false ∷ false ∷ true ∷ [])) ∷ ((negsuc 0 ∷ negsuc 0 ∷ []), (false ∷ false ∷ false ∷ true ∷ [])) ∷ ((pos 0 ∷ negsuc 0 ∷ []), (false ∷ false ∷ false ∷ true ∷ [])) ∷ ((pos 0 ∷ negsuc 6 ∷ []), (false ∷ false ∷ false ∷ true ∷ [])) ∷ ((pos 166732955 ∷ negsuc 0 ∷ []), (false ∷ false ∷ false ∷ true ∷ [])) ∷ []) ≡ Ended 63 (pos 0 ∷ pos 5 ∷ pos 3 ∷ []) ∷ Ended 71 (pos 0 ∷ pos 5 ∷ pos 3 ∷ []) ∷ Ended 71 (pos 0 ∷ pos 5 ∷ pos 3 ∷ []) ∷ Ended 71 (pos 0 ∷ pos 5 ∷ pos 3 ∷ []) ∷ Ended 71 (pos 0 ∷ pos 5 ∷ pos 3 ∷ []) ∷ []
unfolding run int_wrap image_24
run_24 = refl

image_25 : Parts
image_25 = record {
  code = (3906994188 ∷ 3160866856 ∷ 4229955584 ∷ 4234149888 ∷ 3154378740 ∷ 4227858691 ∷ 818085888 ∷ 4236247040 ∷ 2952790018 ∷ 2825322487 ∷ 3087073240 ∷ 4232052736 ∷ 3906994184 ∷ 4249288704 ∷ 4234149889 ∷ 4234149890 ∷ 1214529536 ∷ 4236247040 ∷ 2952855550 ∷ 2693005320 ∷ 818216960 ∷ 4236247040 ∷ 818282498 ∷ 818216961 ∷ 4232052736 ∷ 4249157632 ∷ 4249354240 ∷ 4175429640 ∷ 812122113 ∷ 283394048 ∷ 4232052736 ∷ 4169138176 ∷ 4232052736 ∷ 1221081088 ∷ 4240441344 ∷ []);
  memory = (pos 0 ∷ negsuc 0 ∷ pos 0 ∷ negsuc 0 ∷ []);
  inputs = ([]);
  outputs = (3 ∷ 1 ∷ []);
  slots = (16 ∷ 14 ∷ 27 ∷ 31 ∷ []);
  aborts = record { weak = true; cond = 12; handler = 8 } ∷ record { weak = false; cond = 25; handler = 22 } ∷ record { weak = true; cond = 26; handler = 18 } ∷ [];
  pauses = record { at = 2; slot = 0; stack = ([]) } ∷ record { at = 4; slot = 0; stack = (0 ∷ []) } ∷ [];
  forks = record { at = 5; slot = 0; stack = (0 ∷ []) } ∷ [];
}

run_25 : seen image_25 (1 ∷ 1 ∷ 1 ∷ 1 ∷ 1 ∷ 1 ∷ 1 ∷ 1 ∷ 1 ∷ 1 ∷ 1 ∷ 1 ∷ 1 ∷ 1 ∷ 1 ∷ 1 ∷ 1 ∷ 1 ∷ 1 ∷ 1 ∷ 1 ∷ 1 ∷ []) 3000 (loaded_unit image_25) (loaded_cells image_25) ((([]), ([])) ∷ []) ≡ Stopped TableEmpty 17 ∷ []
unfolding run int_wrap image_25
run_25 = refl

image_26 : Parts
image_26 = record {
  code = (3162832904 ∷ 3909091336 ∷ 4242538497 ∷ 4244635654 ∷ 3162767364 ∷ 3087073272 ∷ 818085891 ∷ 4242538496 ∷ 4244635662 ∷ 4246732800 ∷ 3087007760 ∷ 815988737 ∷ 4229955584 ∷ 3087073256 ∷ 4171235344 ∷ 4232052736 ∷ 816316415 ∷ 4236247040 ∷ 3087007768 ∷ 4229955584 ∷ 2952790016 ∷ 4242538500 ∷ 4244635672 ∷ 3087073276 ∷ 4227859202 ∷ 818348033 ∷ 4229955584 ∷ 4232052736 ∷ 4229955584 ∷ 4242538499 ∷ 4244635676 ∷ 4244635676 ∷ 3087073272 ∷ 2952790016 ∷ 811794433 ∷ 2952790016 ∷ 811794433 ∷ 1149770752 ∷ 3156672516 ∷ 4249354240 ∷ 4229955584 ∷ 2952790016 ∷ 811794433 ∷ 4229955584 ∷ 3900702724 ∷ 4229955584 ∷ 4234149889 ∷ 4229955584 ∷ 3087073276 ∷ 4229955584 ∷ 4229955584 ∷ 4232052736 ∷ 2952790016 ∷ 4242538497 ∷ 4244635727 ∷ 4244635728 ∷ 3160866820 ∷ 4242538498 ∷ 4244635726 ∷ 3087073276 ∷ 2952790017 ∷ 811794433 ∷ 816250883 ∷ 3087073260 ∷ 4244635725 ∷ 4244635725 ∷ 3158704156 ∷ 3087073268 ∷ 3160735776 ∷ 4244635714 ∷ 4244635726 ∷ 2952790017 ∷ 811794433 ∷ 3165061124 ∷ 816250879 ∷ 3087007748 ∷ 4246732800 ∷ 3160997740 ∷ 3087073184 ∷ 3160735752 ∷ 822673407 ∷ 4236247040 ∷ 3087073112 ∷ 2952790016 ∷ 4242538500 ∷ 4244635693 ∷ 4244635693 ∷ 3904897040 ∷ 3087073272 ∷ 4242538498 ∷ 4244635733 ∷ 1147669504 ∷ 4244635734 ∷ 3087073276 ∷ 1151745024 ∷ 3160735748 ∷ 3158835204 ∷ 3087073260 ∷ []);
  memory = (pos 0 ∷ pos 0 ∷ pos 0 ∷ pos 1 ∷ pos 1 ∷ negsuc 0 ∷ []);
  inputs = (3 ∷ []);
  outputs = (1 ∷ 0 ∷ []);
  slots = (19 ∷ 10 ∷ 49 ∷ 28 ∷ 46 ∷ []);
  aborts = record { weak = false; cond = 35; handler = 27 } ∷ record { weak = true; cond = 38; handler = 83 } ∷ [];
  pauses = record { at = 12; slot = 1; stack = ([]) } ∷ record { at = 19; slot = 0; stack = ([]) } ∷ record { at = 26; slot = 0; stack = ([]) } ∷ record { at = 28; slot = 3; stack = ([]) } ∷ record { at = 40; slot = 4; stack = ([]) } ∷ record { at = 43; slot = 4; stack = ([]) } ∷ record { at = 45; slot = 4; stack = ([]) } ∷ record { at = 47; slot = 4; stack = (1 ∷ []) } ∷ record { at = 49; slot = 2; stack = ([]) } ∷ record { at = 50; slot = 2; stack = ([]) } ∷ [];
  forks = record { at = 24; slot = 0; stack = ([]) } ∷ [];
}

run_26 : seen image_26 (6 ∷ 1 ∷ 1 ∷ 3 ∷ 5 ∷ 4 ∷ 8 ∷ 6 ∷ 1 ∷ 6 ∷ 7 ∷ 5 ∷ 8 ∷ 2 ∷ 8 ∷ 5 ∷ 9 ∷ 7 ∷ 4 ∷ 5 ∷ 6 ∷ 7 ∷ []) 300 (loaded_unit image_26) (loaded_cells image_26) (((pos 1 ∷ []), ([])) ∷ ((pos 6 ∷ []), ([])) ∷ ((pos 0 ∷ []), (false ∷ false ∷ [])) ∷ ((pos 1 ∷ []), (false ∷ false ∷ [])) ∷ ((negsuc 0 ∷ []), (false ∷ false ∷ [])) ∷ []) ≡ Ended 33 (pos 0 ∷ pos 0 ∷ []) ∷ Ended 103 (pos 0 ∷ pos 0 ∷ []) ∷ Ended 85 (pos 0 ∷ pos 0 ∷ []) ∷ Ended 85 (pos 0 ∷ pos 0 ∷ []) ∷ Ended 85 (pos 0 ∷ pos 0 ∷ []) ∷ []
unfolding run int_wrap image_26
run_26 = refl

image_27 : Parts
image_27 = record {
  code = (3158442000 ∷ 1073745920 ∷ 3896508424 ∷ 3361802240 ∷ 1214259200 ∷ 3154116624 ∷ 811597831 ∷ 274860032 ∷ 2952801528 ∷ 2952852599 ∷ 3158638560 ∷ 2153906176 ∷ 3162832852 ∷ 4229955584 ∷ 3087073224 ∷ []);
  memory = (pos 5 ∷ pos 2147483647 ∷ pos 3 ∷ pos 5 ∷ []);
  inputs = (0 ∷ 1 ∷ []);
  outputs = (1 ∷ 2 ∷ 3 ∷ []);
  slots = (0 ∷ []);
  aborts = [];
  pauses = record { at = 13; slot = 0; stack = ([]) } ∷ [];
  forks = [];
}

run_27 : seen image_27 (1 ∷ 1 ∷ 1 ∷ 100 ∷ 1 ∷ 2 ∷ 100 ∷ 1 ∷ 2 ∷ 100 ∷ 100 ∷ 2 ∷ 1 ∷ 2 ∷ 1 ∷ 2 ∷ 1 ∷ 100 ∷ 2 ∷ 1 ∷ 1 ∷ 1 ∷ []) 300 (loaded_unit image_27) (loaded_cells image_27) (((negsuc 0 ∷ pos 1 ∷ []), (false ∷ true ∷ [])) ∷ []) ≡ Stopped Late 10 ∷ []
unfolding run int_wrap image_27
run_27 = refl

image_28 : Parts
image_28 = record {
  code = (2952790016 ∷ 811794433 ∷ 4240441344 ∷ 4229955584 ∷ 4227858945 ∷ 3909091336 ∷ 4229955584 ∷ 2952790016 ∷ 811794433 ∷ 4227858689 ∷ 4229955584 ∷ 3087073252 ∷ 3154640952 ∷ 4229955584 ∷ 3087007744 ∷ 4229955584 ∷ 3087007748 ∷ 4229955584 ∷ 4232052736 ∷ 4238344223 ∷ 4242538497 ∷ 4244635654 ∷ 3372562432 ∷ 4244635658 ∷ 3087073276 ∷ 3162767368 ∷ 4229955584 ∷ 4177526800 ∷ 2952790016 ∷ 811794433 ∷ 4232052736 ∷ 3154378788 ∷ 3163029528 ∷ 4242538497 ∷ 4244635688 ∷ 3087073276 ∷ 820379651 ∷ 4246732800 ∷ 2952790016 ∷ 811794433 ∷ 4240441344 ∷ 285474816 ∷ 4249223168 ∷ []);
  memory = (pos 0 ∷ negsuc 0 ∷ negsuc 0 ∷ pos 1 ∷ negsuc 0 ∷ pos 1 ∷ []);
  inputs = (0 ∷ []);
  outputs = ([]);
  slots = (4 ∷ 18 ∷ 25 ∷ []);
  aborts = [];
  pauses = record { at = 3; slot = 0; stack = ([]) } ∷ record { at = 6; slot = 0; stack = ([]) } ∷ record { at = 10; slot = 0; stack = ([]) } ∷ record { at = 13; slot = 2; stack = ([]) } ∷ record { at = 15; slot = 1; stack = ([]) } ∷ record { at = 17; slot = 1; stack = ([]) } ∷ record { at = 26; slot = 2; stack = ([]) } ∷ [];
  forks = record { at = 4; slot = 0; stack = ([]) } ∷ record { at = 9; slot = 0; stack = ([]) } ∷ [];
}

run_28 : seen image_28 (1 ∷ 1 ∷ 1 ∷ 1 ∷ 1 ∷ 1 ∷ 1 ∷ 1 ∷ 1 ∷ 1 ∷ 1 ∷ 1 ∷ 1 ∷ 1 ∷ 1 ∷ 1 ∷ 1 ∷ 1 ∷ 1 ∷ 1 ∷ 1 ∷ 1 ∷ []) 40 (loaded_unit image_28) (loaded_cells image_28) (((pos 1 ∷ []), (false ∷ [])) ∷ ((negsuc 4 ∷ []), ([])) ∷ ((negsuc 2 ∷ []), ([])) ∷ ((pos 0 ∷ []), (false ∷ [])) ∷ ((pos 0 ∷ []), ([])) ∷ []) ≡ Ended 5 ([]) ∷ Ended 8 ([]) ∷ Ended 7 ([]) ∷ Ended 6 ([]) ∷ Ended 8 ([]) ∷ []
unfolding run int_wrap image_28
run_28 = refl

image_29 : Parts
image_29 = record {
  code = (1158099968 ∷ 4229955584 ∷ 3087073272 ∷ 814022657 ∷ 3160866896 ∷ 3087007832 ∷ 4175429640 ∷ 3087007760 ∷ 3165061148 ∷ 4229955584 ∷ 4236247040 ∷ 4232052736 ∷ 4229955584 ∷ 4175429640 ∷ 3906994192 ∷ 4229955584 ∷ 3158835172 ∷ 4229955584 ∷ 4229955584 ∷ 3087073260 ∷ 3158507548 ∷ 3164930052 ∷ 812056575 ∷ 3634573312 ∷ 3087007748 ∷ 3368491008 ∷ 3154509828 ∷ 4249288704 ∷ []);
  memory = (negsuc 0 ∷ negsuc 0 ∷ pos 0 ∷ pos 1 ∷ pos 0 ∷ pos 1 ∷ []);
  inputs = (5 ∷ 0 ∷ []);
  outputs = (4 ∷ 2 ∷ []);
  slots = (1 ∷ 11 ∷ []);
  aborts = record { weak = false; cond = 24; handler = 11 } ∷ [];
  pauses = record { at = 1; slot = 0; stack = ([]) } ∷ record { at = 9; slot = 1; stack = (0 ∷ []) } ∷ record { at = 12; slot = 1; stack = (0 ∷ []) } ∷ record { at = 15; slot = 1; stack = (0 ∷ []) } ∷ record { at = 17; slot = 1; stack = (0 ∷ []) } ∷ record { at = 18; slot = 1; stack = (0 ∷ []) } ∷ [];
  forks = [];
}

run_29 : seen image_29 (1 ∷ 2 ∷ 100 ∷ 1 ∷ 2 ∷ 1 ∷ 1 ∷ 2 ∷ 2 ∷ 2 ∷ 100 ∷ 1 ∷ 2 ∷ 100 ∷ 1 ∷ 1 ∷ 100 ∷ 1 ∷ 1 ∷ 1 ∷ 100 ∷ 1 ∷ []) 40 (loaded_unit image_29) (loaded_cells image_29) (((pos 0 ∷ pos 7 ∷ []), ([])) ∷ ((pos 4 ∷ pos 0 ∷ []), ([])) ∷ ((pos 6 ∷ negsuc 3 ∷ []), ([])) ∷ ((negsuc 0 ∷ pos 1228846564 ∷ []), ([])) ∷ ((negsuc 0 ∷ pos 1 ∷ []), ([])) ∷ []) ≡ Ended 6 (pos 0 ∷ pos 0 ∷ []) ∷ Ended 10 (pos 0 ∷ pos 0 ∷ []) ∷ Ended 10 (pos 0 ∷ pos 0 ∷ []) ∷ Ended 10 (pos 0 ∷ pos 0 ∷ []) ∷ Ended 10 (pos 0 ∷ pos 0 ∷ []) ∷ []
unfolding run int_wrap image_29
run_29 = refl

image_30 : Parts
image_30 = record {
  code = (2952826720 ∷ 2952850310 ∷ 1141053440 ∷ 3154247672 ∷ 2684616705 ∷ 337911809 ∷ 3628335104 ∷ 3623952384 ∷ 3156410360 ∷ 4160749584 ∷ 4229955584 ∷ 3087073236 ∷ []);
  memory = (negsuc 6 ∷ pos 3 ∷ negsuc 2147483647 ∷ pos 0 ∷ []);
  inputs = (0 ∷ 1 ∷ []);
  outputs = (1 ∷ 2 ∷ 3 ∷ []);
  slots = (0 ∷ []);
  aborts = [];
  pauses = record { at = 10; slot = 0; stack = ([]) } ∷ [];
  forks = [];
}

run_30 : seen image_30 (240 ∷ 80 ∷ 34 ∷ 213 ∷ 80 ∷ 225 ∷ 80 ∷ 65 ∷ 130 ∷ 21 ∷ 36 ∷ 63 ∷ 180 ∷ 81 ∷ 31 ∷ 198 ∷ 8 ∷ 105 ∷ 235 ∷ 192 ∷ 130 ∷ 78 ∷ []) 300 (loaded_unit image_30) (loaded_cells image_30) (((pos 7 ∷ negsuc 0 ∷ []), ([])) ∷ []) ≡ Stopped Late 0 ∷ []
unfolding run int_wrap image_30
run_30 = refl

image_31 : Parts
image_31 = record {
  code = (3900702728 ∷ 2760114177 ∷ 2952790016 ∷ 3160670220 ∷ 818479103 ∷ 3087007812 ∷ 4229955584 ∷ 4234149888 ∷ 3900702724 ∷ 811925504 ∷ 3906994184 ∷ 4177526788 ∷ 4242538497 ∷ 4244635669 ∷ 2952790016 ∷ 3158835220 ∷ 4167041024 ∷ 3902799876 ∷ 2952855551 ∷ 3087073256 ∷ 4246732800 ∷ 4236247040 ∷ 4229955584 ∷ 3087073188 ∷ 4232052736 ∷ 3904897024 ∷ 3909091328 ∷ 3156738060 ∷ 2952790017 ∷ 2764242946 ∷ 4249223168 ∷ []);
  memory = (pos 0 ∷ negsuc 0 ∷ pos 5 ∷ pos 0 ∷ []);
  inputs = ([]);
  outputs = (1 ∷ []);
  slots = (0 ∷ []);
  aborts = record { weak = true; cond = 25; handler = 22 } ∷ [];
  pauses = record { at = 6; slot = 0; stack = ([]) } ∷ record { at = 22; slot = 0; stack = ([]) } ∷ [];
  forks = [];
}

run_31 : seen image_31 (100 ∷ 100 ∷ 2 ∷ 1 ∷ 1 ∷ 1 ∷ 100 ∷ 2 ∷ 100 ∷ 1 ∷ 1 ∷ 1 ∷ 1 ∷ 1 ∷ 1 ∷ 1 ∷ 2 ∷ 1 ∷ 100 ∷ 100 ∷ 1 ∷ 1 ∷ []) 40 (loaded_unit image_31) (loaded_cells image_31) ((([]), ([])) ∷ []) ≡ Stopped Late 1 ∷ []
unfolding run int_wrap image_31
run_31 = refl

image_32 : Parts
image_32 = record {
  code = (4175429652 ∷ 4167041028 ∷ 3909091352 ∷ 3165126688 ∷ 4242538498 ∷ 4244635659 ∷ 4175429652 ∷ 822476800 ∷ 3902799896 ∷ 2952855551 ∷ 3087073260 ∷ 4240441344 ∷ 4173332480 ∷ 4240441344 ∷ 4238344192 ∷ 275136512 ∷ 4240441344 ∷ 4229955584 ∷ 4232052736 ∷ []);
  memory = (negsuc 0 ∷ negsuc 0 ∷ pos 0 ∷ pos 0 ∷ pos 0 ∷ pos 1 ∷ pos 0 ∷ []);
  inputs = (3 ∷ 1 ∷ []);
  outputs = (4 ∷ 0 ∷ []);
  slots = (17 ∷ []);
  aborts = [];
  pauses = record { at = 17; slot = 0; stack = ([]) } ∷ [];
  forks = [];
}

run_32 : seen image_32 (93 ∷ 193 ∷ 142 ∷ 26 ∷ 176 ∷ 25 ∷ 126 ∷ 243 ∷ 133 ∷ 182 ∷ 209 ∷ 39 ∷ 19 ∷ 217 ∷ 140 ∷ 177 ∷ 156 ∷ 38 ∷ 105 ∷ 34 ∷ 107 ∷ 23 ∷ []) 40 (loaded_unit image_32) (loaded_cells image_32) (((pos 1 ∷ negsuc 0 ∷ []), ([])) ∷ []) ≡ Stopped Late 0 ∷ []
unfolding run int_wrap image_32
run_32 = refl

image_33 : Parts
image_33 = record {
  code = (3154182160 ∷ 2760171390 ∷ 2952799321 ∷ 3156475920 ∷ 2688581632 ∷ 1149436416 ∷ 3160670208 ∷ 1145309184 ∷ 4229955584 ∷ 3087073244 ∷ []);
  memory = (pos 0 ∷ pos 0 ∷ negsuc 6 ∷ negsuc 6 ∷ []);
  inputs = (0 ∷ 1 ∷ []);
  outputs = (1 ∷ 2 ∷ 3 ∷ []);
  slots = (0 ∷ []);
  aborts = [];
  pauses = record { at = 8; slot = 0; stack = ([]) } ∷ [];
  forks = [];
}

run_33 : seen image_33 (2 ∷ 6 ∷ 2 ∷ 6 ∷ 4 ∷ 9 ∷ 5 ∷ 6 ∷ 1 ∷ 6 ∷ 9 ∷ 5 ∷ 9 ∷ 7 ∷ 7 ∷ 3 ∷ 2 ∷ 1 ∷ 6 ∷ 9 ∷ 2 ∷ 2 ∷ []) 300 (loaded_unit image_33) (loaded_cells image_33) (((pos 0 ∷ pos 1 ∷ []), (true ∷ true ∷ true ∷ true ∷ true ∷ true ∷ true ∷ true ∷ true ∷ true ∷ true ∷ true ∷ true ∷ true ∷ true ∷ true ∷ true ∷ true ∷ true ∷ true ∷ true ∷ true ∷ true ∷ true ∷ true ∷ true ∷ true ∷ true ∷ true ∷ true ∷ true ∷ true ∷ true ∷ true ∷ true ∷ true ∷ true ∷ true ∷ true ∷ true ∷ true ∷ true ∷ true ∷ true ∷ true ∷ true ∷ true ∷ true ∷ true ∷ true ∷ true ∷ true ∷ true ∷ true ∷ true ∷ true ∷ true ∷ true ∷ true ∷ true ∷ true ∷ true ∷ true ∷ true ∷ true ∷ true ∷ true ∷ true ∷ true ∷ true ∷ true ∷ true ∷ true ∷ true ∷ true ∷ true ∷ true ∷ true ∷ true ∷ true ∷ true ∷ true ∷ true ∷ true ∷ true ∷ true ∷ true ∷ true ∷ true ∷ true ∷ true ∷ true ∷ true ∷ true ∷ true ∷ true ∷ true ∷ true ∷ true ∷ true ∷ true ∷ true ∷ true ∷ true ∷ true ∷ true ∷ true ∷ true ∷ true ∷ true ∷ true ∷ true ∷ true ∷ true ∷ true ∷ true ∷ true ∷ true ∷ true ∷ true ∷ true ∷ true ∷ true ∷ true ∷ true ∷ true ∷ true ∷ true ∷ true ∷ true ∷ true ∷ true ∷ true ∷ true ∷ true ∷ true ∷ true ∷ true ∷ true ∷ true ∷ true ∷ true ∷ true ∷ true ∷ true ∷ true ∷ true ∷ true ∷ true ∷ true ∷ true ∷ true ∷ true ∷ true ∷ true ∷ true ∷ true ∷ true ∷ true ∷ true ∷ true ∷ true ∷ true ∷ true ∷ true ∷ true ∷ true ∷ true ∷ true ∷ true ∷ true ∷ true ∷ true ∷ true ∷ true ∷ true ∷ true ∷ true ∷ true ∷ true ∷ true ∷ true ∷ true ∷ true ∷ true ∷ true ∷ true ∷ true ∷ true ∷ true ∷ true ∷ true ∷ true ∷ true ∷ true ∷ true ∷ true ∷ true ∷ true ∷ true ∷ true ∷ true ∷ true ∷ true ∷ true ∷ true ∷ true ∷ true ∷ true ∷ true ∷ true ∷ true ∷ true ∷ true ∷ true ∷ true ∷ true ∷ true ∷ true ∷ true ∷ true ∷ true ∷ true ∷ true ∷ true ∷ true ∷ true ∷ true ∷ true ∷ true ∷ true ∷ true ∷ true ∷ true ∷ true ∷ true ∷ true ∷ true ∷ true ∷ true ∷ true ∷ true ∷ true ∷ true ∷ true ∷ true ∷ true ∷ true ∷ true ∷ true ∷ true ∷ true ∷ true ∷ true ∷ true ∷ true ∷ true ∷ true ∷ true ∷ true ∷ true ∷ true ∷ true ∷ true ∷ true ∷ true ∷ true ∷ true ∷ true ∷ true ∷ true ∷ true ∷ true ∷ true ∷ true ∷ true ∷ true ∷ true ∷ true ∷ true ∷ [])) ∷ []) ≡ Stopped Late 6 ∷ []
unfolding run int_wrap image_33
run_33 = refl

image_34 : Parts
image_34 = record {
  code = (4234149888 ∷ 4227858689 ∷ 4229955584 ∷ 3154444436 ∷ 811925503 ∷ 4229955584 ∷ 4236247040 ∷ 3087007776 ∷ 4242538497 ∷ 4244635664 ∷ 4244635667 ∷ 3087073272 ∷ 3154509832 ∷ 4244635663 ∷ 4246732800 ∷ 4229955584 ∷ 1091047424 ∷ 2952790016 ∷ 811794433 ∷ 3087007832 ∷ 1218844672 ∷ 4227858945 ∷ 4229955584 ∷ 4232052736 ∷ 3156475984 ∷ 4229955584 ∷ 4242538497 ∷ 4244635688 ∷ 3087073276 ∷ 818479103 ∷ 4177526804 ∷ 3087073264 ∷ 1214457856 ∷ 4229955584 ∷ 3087007744 ∷ 4229955584 ∷ 4229955584 ∷ 3087073224 ∷ 4236247040 ∷ 4229955584 ∷ 4236247040 ∷ 3087073184 ∷ 4236247040 ∷ 3900702724 ∷ 4242538496 ∷ 4244635650 ∷ 2952790016 ∷ 811794433 ∷ 3154444296 ∷ 818282499 ∷ 3087073260 ∷ 2952790017 ∷ 811794433 ∷ 820445185 ∷ 2952790016 ∷ 4242538497 ∷ 4244635711 ∷ 3160866820 ∷ 3087073272 ∷ 3154378760 ∷ 3164930052 ∷ 4229955584 ∷ 3087073272 ∷ 4242538498 ∷ 4244635714 ∷ 4246732800 ∷ 4232052736 ∷ 3160735752 ∷ 822345729 ∷ 4249223168 ∷ 811991039 ∷ 3165061128 ∷ 3906994184 ∷ 4249223168 ∷ []);
  memory = (pos 0 ∷ pos 0 ∷ pos 0 ∷ pos 1 ∷ pos 0 ∷ pos 0 ∷ []);
  inputs = (1 ∷ 4 ∷ []);
  outputs = ([]);
  slots = (17 ∷ 22 ∷ 63 ∷ []);
  aborts = record { weak = true; cond = 68; handler = 0 } ∷ record { weak = false; cond = 73; handler = 3 } ∷ record { weak = false; cond = 69; handler = 3 } ∷ [];
  pauses = record { at = 2; slot = 0; stack = (0 ∷ []) } ∷ record { at = 5; slot = 0; stack = (0 ∷ []) } ∷ record { at = 15; slot = 0; stack = ([]) } ∷ record { at = 22; slot = 1; stack = ([]) } ∷ record { at = 25; slot = 0; stack = (0 ∷ []) } ∷ record { at = 33; slot = 0; stack = (0 ∷ 1 ∷ []) } ∷ record { at = 35; slot = 1; stack = ([]) } ∷ record { at = 36; slot = 1; stack = ([]) } ∷ record { at = 39; slot = 0; stack = (0 ∷ []) } ∷ record { at = 61; slot = 0; stack = (0 ∷ 2 ∷ []) } ∷ [];
  forks = record { at = 1; slot = 0; stack = (0 ∷ []) } ∷ record { at = 21; slot = 1; stack = ([]) } ∷ [];
}

run_34 : seen image_34 (40 ∷ 97 ∷ 116 ∷ 16 ∷ 140 ∷ 88 ∷ 36 ∷ 19 ∷ 219 ∷ 68 ∷ 188 ∷ 210 ∷ 220 ∷ 89 ∷ 112 ∷ 222 ∷ 42 ∷ 9 ∷ 240 ∷ 180 ∷ 184 ∷ 142 ∷ []) 3000 (loaded_unit image_34) (loaded_cells image_34) (((pos 0 ∷ pos 3 ∷ []), ([])) ∷ []) ≡ Stopped Late 18 ∷ []
unfolding run int_wrap image_34
run_34 = refl

image_35 : Parts
image_35 = record {
  code = (4227858945 ∷ 4229955584 ∷ 3087007744 ∷ 285421568 ∷ 4229955584 ∷ 4232052736 ∷ 3898605572 ∷ 1216559104 ∷ 4249354240 ∷ 4234149889 ∷ 4175429648 ∷ 812187647 ∷ 4229955584 ∷ 3087073272 ∷ 4227858689 ∷ 3156541444 ∷ 4236247040 ∷ 4234149888 ∷ 2952790017 ∷ 811794433 ∷ 4236247040 ∷ 4232052736 ∷ 4242538497 ∷ 4244635674 ∷ 4246732800 ∷ 3904897032 ∷ 4229955584 ∷ 811859969 ∷ 3158507520 ∷ 4232052736 ∷ 4229955584 ∷ 4236247040 ∷ 3087073220 ∷ 4242538498 ∷ 4244635693 ∷ 4244635694 ∷ 3154575388 ∷ 4242538497 ∷ 4244635689 ∷ 3158704132 ∷ 4246732800 ∷ 3087073252 ∷ 3898605580 ∷ 3156672516 ∷ 4246732800 ∷ 4229955584 ∷ 3087073276 ∷ []);
  memory = (negsuc 0 ∷ pos 1 ∷ pos 0 ∷ pos 0 ∷ pos 1 ∷ pos 0 ∷ []);
  inputs = ([]);
  outputs = (3 ∷ []);
  slots = (21 ∷ 2 ∷ 3 ∷ []);
  aborts = record { weak = true; cond = 8; handler = 26 } ∷ record { weak = true; cond = 8; handler = 0 } ∷ [];
  pauses = record { at = 1; slot = 1; stack = ([]) } ∷ record { at = 4; slot = 2; stack = ([]) } ∷ record { at = 12; slot = 1; stack = (1 ∷ []) } ∷ record { at = 26; slot = 0; stack = ([]) } ∷ record { at = 30; slot = 0; stack = (0 ∷ []) } ∷ record { at = 45; slot = 1; stack = (1 ∷ []) } ∷ [];
  forks = record { at = 0; slot = 1; stack = ([]) } ∷ record { at = 14; slot = 0; stack = (0 ∷ []) } ∷ [];
}

run_35 : seen image_35 (22 ∷ 229 ∷ 20 ∷ 61 ∷ 189 ∷ 185 ∷ 18 ∷ 229 ∷ 185 ∷ 12 ∷ 79 ∷ 213 ∷ 112 ∷ 221 ∷ 37 ∷ 32 ∷ 145 ∷ 202 ∷ 115 ∷ 224 ∷ 244 ∷ 83 ∷ []) 3000 (loaded_unit image_35) (loaded_cells image_35) ((([]), ([])) ∷ (([]), ([])) ∷ (([]), ([])) ∷ (([]), ([])) ∷ (([]), ([])) ∷ []) ≡ Ended 278 (pos 0 ∷ []) ∷ Ended 166 (pos 0 ∷ []) ∷ Ended 166 (pos 0 ∷ []) ∷ Ended 166 (pos 0 ∷ []) ∷ Ended 166 (pos 0 ∷ []) ∷ []
unfolding run int_wrap image_35
run_35 = refl

image_36 : Parts
image_36 = record {
  code = (335675392 ∷ 276891648 ∷ 1147281408 ∷ 1149247488 ∷ 811827200 ∷ 1214316544 ∷ 2824994815 ∷ 2759983105 ∷ 2952807772 ∷ 2753626119 ∷ 3164733428 ∷ 4229955584 ∷ 3087073232 ∷ []);
  memory = (pos 3 ∷ negsuc 6 ∷ negsuc 2147483647 ∷ pos 0 ∷ []);
  inputs = (0 ∷ 1 ∷ []);
  outputs = (1 ∷ 2 ∷ 3 ∷ []);
  slots = (0 ∷ []);
  aborts = [];
  pauses = record { at = 11; slot = 0; stack = ([]) } ∷ [];
  forks = [];
}

run_36 : seen image_36 (9 ∷ 8 ∷ 9 ∷ 5 ∷ 8 ∷ 2 ∷ 4 ∷ 5 ∷ 4 ∷ 3 ∷ 3 ∷ 2 ∷ 4 ∷ 6 ∷ 7 ∷ 9 ∷ 1 ∷ 7 ∷ 6 ∷ 8 ∷ 3 ∷ 9 ∷ []) 3000 (loaded_unit image_36) (loaded_cells image_36) (((pos 1 ∷ pos 1 ∷ []), (true ∷ true ∷ true ∷ true ∷ true ∷ true ∷ true ∷ true ∷ true ∷ true ∷ true ∷ true ∷ true ∷ true ∷ true ∷ true ∷ true ∷ true ∷ true ∷ true ∷ true ∷ true ∷ true ∷ true ∷ true ∷ true ∷ true ∷ true ∷ true ∷ true ∷ true ∷ true ∷ true ∷ true ∷ true ∷ true ∷ true ∷ true ∷ true ∷ true ∷ true ∷ true ∷ true ∷ true ∷ true ∷ true ∷ true ∷ true ∷ true ∷ true ∷ true ∷ true ∷ true ∷ true ∷ true ∷ true ∷ true ∷ true ∷ true ∷ true ∷ true ∷ true ∷ true ∷ true ∷ true ∷ true ∷ true ∷ true ∷ true ∷ true ∷ true ∷ true ∷ true ∷ true ∷ true ∷ true ∷ true ∷ true ∷ true ∷ true ∷ true ∷ true ∷ true ∷ true ∷ true ∷ true ∷ true ∷ true ∷ true ∷ true ∷ true ∷ true ∷ true ∷ true ∷ true ∷ true ∷ [])) ∷ []) ≡ Stopped Late 8 ∷ []
unfolding run int_wrap image_36
run_36 = refl

image_37 : Parts
image_37 = record {
  code = (822411265 ∷ 2952790016 ∷ 811794433 ∷ 4229955584 ∷ 4236247040 ∷ 4234149890 ∷ 2952790017 ∷ 811794433 ∷ 4229955584 ∷ 3087007832 ∷ 3164995592 ∷ 4229955584 ∷ 4232052736 ∷ 3164864508 ∷ 281294848 ∷ 3162898440 ∷ 816119809 ∷ 3165061100 ∷ 4234149888 ∷ 4229955584 ∷ 3087007748 ∷ 3160801272 ∷ 4234149889 ∷ 4234149890 ∷ 4229955584 ∷ 3087073184 ∷ 3158704240 ∷ 3902799880 ∷ 3909091340 ∷ 4249026560 ∷ 4234149890 ∷ 2952790016 ∷ 811794433 ∷ 4242538496 ∷ 4244635656 ∷ 4244635689 ∷ 4244635689 ∷ 3154575364 ∷ 3087073264 ∷ 818282499 ∷ 4234149890 ∷ 4242538497 ∷ 3087007752 ∷ 3902799880 ∷ 814219263 ∷ 4244635656 ∷ 4175429652 ∷ 3087073272 ∷ 4242538497 ∷ 4244635693 ∷ 3087073276 ∷ 816316415 ∷ 4169138176 ∷ 1216880640 ∷ 4249026560 ∷ []);
  memory = (pos 0 ∷ negsuc 0 ∷ negsuc 0 ∷ negsuc 0 ∷ pos 0 ∷ negsuc 0 ∷ []);
  inputs = ([]);
  outputs = ([]);
  slots = (13 ∷ []);
  aborts = record { weak = true; cond = 53; handler = 15 } ∷ record { weak = true; cond = 51; handler = 19 } ∷ record { weak = true; cond = 28; handler = 23 } ∷ [];
  pauses = record { at = 3; slot = 0; stack = (0 ∷ 1 ∷ 2 ∷ []) } ∷ record { at = 8; slot = 0; stack = (0 ∷ 1 ∷ 2 ∷ []) } ∷ record { at = 11; slot = 0; stack = ([]) } ∷ record { at = 19; slot = 0; stack = (0 ∷ []) } ∷ record { at = 24; slot = 0; stack = (0 ∷ 1 ∷ 2 ∷ []) } ∷ [];
  forks = [];
}

run_37 : seen image_37 (1 ∷ 1 ∷ 1 ∷ 1 ∷ 1 ∷ 1 ∷ 1 ∷ 1 ∷ 1 ∷ 1 ∷ 1 ∷ 1 ∷ 1 ∷ 1 ∷ 1 ∷ 1 ∷ 1 ∷ 1 ∷ 1 ∷ 1 ∷ 1 ∷ 1 ∷ []) 40 (loaded_unit image_37) (loaded_cells image_37) ((([]), (true ∷ [])) ∷ (([]), ([])) ∷ (([]), ([])) ∷ (([]), ([])) ∷ (([]), ([])) ∷ []) ≡ Ended 3 ([]) ∷ Ended 1 ([]) ∷ Ended 1 ([]) ∷ Ended 1 ([]) ∷ Ended 1 ([]) ∷ []
unfolding run int_wrap image_37
run_37 = refl

image_38 : Parts
image_38 = record {
  code = (4227858690 ∷ 3898605588 ∷ 4232052736 ∷ 4234149888 ∷ 4234149889 ∷ 4234149890 ∷ 4229955584 ∷ 3087073276 ∷ 4236247040 ∷ 4177526808 ∷ 4229955584 ∷ 3087073272 ∷ 4171235348 ∷ 4236247040 ∷ 822542337 ∷ 4173332492 ∷ 4236247040 ∷ 1082603520 ∷ 818085890 ∷ 4232052736 ∷ 3906994200 ∷ 4249288704 ∷ 3902799876 ∷ 4232052736 ∷ 4249157632 ∷ 3898605580 ∷ 4249026560 ∷ 4171235340 ∷ 4232052736 ∷ 3906994184 ∷ 2952790016 ∷ 3160866836 ∷ 3154378724 ∷ 3162701836 ∷ 2294624256 ∷ 818282495 ∷ 4240441344 ∷ []);
  memory = (negsuc 0 ∷ pos 0 ∷ pos 0 ∷ negsuc 0 ∷ pos 1 ∷ pos 0 ∷ pos 0 ∷ []);
  inputs = ([]);
  outputs = ([]);
  slots = (0 ∷ 3 ∷ 27 ∷ []);
  aborts = record { weak = true; cond = 20; handler = 17 } ∷ record { weak = true; cond = 22; handler = 14 } ∷ record { weak = true; cond = 25; handler = 9 } ∷ [];
  pauses = record { at = 6; slot = 1; stack = (0 ∷ 1 ∷ 2 ∷ []) } ∷ record { at = 10; slot = 1; stack = (0 ∷ 1 ∷ []) } ∷ [];
  forks = record { at = 0; slot = 0; stack = ([]) } ∷ [];
}

run_38 : seen image_38 (6 ∷ 5 ∷ 2 ∷ 3 ∷ 9 ∷ 5 ∷ 6 ∷ 2 ∷ 1 ∷ 1 ∷ 9 ∷ 7 ∷ 6 ∷ 5 ∷ 6 ∷ 5 ∷ 7 ∷ 2 ∷ 7 ∷ 7 ∷ 8 ∷ 8 ∷ []) 3000 (loaded_unit image_38) (loaded_cells image_38) ((([]), ([])) ∷ (([]), (false ∷ [])) ∷ []) ≡ Ended 51 ([]) ∷ Stopped WrongPlace 23 ∷ []
unfolding run int_wrap image_38
run_38 = refl

image_39 : Parts
image_39 = record {
  code = (1147144192 ∷ 1214513152 ∷ 3154247692 ∷ 3158441972 ∷ 1140982272 ∷ 2153912320 ∷ 3164602368 ∷ 2827094199 ∷ 342036481 ∷ 4229955584 ∷ 3087073240 ∷ []);
  memory = (negsuc 2147483647 ∷ negsuc 6 ∷ negsuc 2147483647 ∷ pos 0 ∷ []);
  inputs = (0 ∷ 1 ∷ []);
  outputs = (1 ∷ 2 ∷ 3 ∷ []);
  slots = (0 ∷ []);
  aborts = [];
  pauses = record { at = 9; slot = 0; stack = ([]) } ∷ [];
  forks = [];
}

run_39 : seen image_39 (1 ∷ 1 ∷ 1 ∷ 1 ∷ 1 ∷ 1 ∷ 1 ∷ 1 ∷ 1 ∷ 1 ∷ 1 ∷ 1 ∷ 1 ∷ 1 ∷ 1 ∷ 1 ∷ 1 ∷ 1 ∷ 1 ∷ 1 ∷ 1 ∷ 1 ∷ []) 300 (loaded_unit image_39) (loaded_cells image_39) (((negsuc 0 ∷ pos 1 ∷ []), (true ∷ true ∷ true ∷ true ∷ true ∷ true ∷ true ∷ true ∷ true ∷ true ∷ true ∷ true ∷ true ∷ true ∷ true ∷ true ∷ true ∷ true ∷ true ∷ true ∷ true ∷ true ∷ true ∷ true ∷ true ∷ true ∷ true ∷ true ∷ true ∷ true ∷ true ∷ true ∷ true ∷ true ∷ true ∷ true ∷ true ∷ true ∷ true ∷ true ∷ true ∷ true ∷ true ∷ true ∷ true ∷ true ∷ true ∷ true ∷ true ∷ true ∷ true ∷ true ∷ true ∷ true ∷ true ∷ true ∷ true ∷ true ∷ true ∷ true ∷ true ∷ true ∷ true ∷ true ∷ true ∷ true ∷ true ∷ true ∷ true ∷ true ∷ true ∷ true ∷ true ∷ true ∷ true ∷ true ∷ true ∷ true ∷ true ∷ true ∷ true ∷ true ∷ true ∷ true ∷ true ∷ true ∷ true ∷ true ∷ true ∷ true ∷ true ∷ true ∷ true ∷ true ∷ true ∷ true ∷ true ∷ true ∷ true ∷ true ∷ true ∷ true ∷ true ∷ true ∷ true ∷ true ∷ true ∷ true ∷ true ∷ true ∷ true ∷ true ∷ true ∷ true ∷ true ∷ true ∷ true ∷ true ∷ true ∷ true ∷ true ∷ true ∷ true ∷ true ∷ true ∷ true ∷ true ∷ true ∷ true ∷ true ∷ true ∷ true ∷ true ∷ true ∷ true ∷ true ∷ true ∷ true ∷ true ∷ true ∷ true ∷ true ∷ true ∷ true ∷ true ∷ true ∷ true ∷ true ∷ true ∷ true ∷ true ∷ true ∷ true ∷ true ∷ true ∷ true ∷ true ∷ true ∷ true ∷ true ∷ true ∷ true ∷ true ∷ true ∷ true ∷ true ∷ true ∷ true ∷ true ∷ true ∷ true ∷ true ∷ true ∷ true ∷ true ∷ true ∷ true ∷ true ∷ true ∷ true ∷ true ∷ true ∷ true ∷ true ∷ true ∷ true ∷ true ∷ true ∷ true ∷ true ∷ true ∷ true ∷ true ∷ true ∷ true ∷ true ∷ true ∷ true ∷ true ∷ true ∷ true ∷ true ∷ true ∷ true ∷ true ∷ true ∷ true ∷ true ∷ true ∷ true ∷ true ∷ true ∷ true ∷ true ∷ true ∷ true ∷ true ∷ true ∷ true ∷ true ∷ true ∷ true ∷ true ∷ true ∷ true ∷ true ∷ true ∷ true ∷ true ∷ true ∷ true ∷ true ∷ true ∷ true ∷ true ∷ true ∷ true ∷ true ∷ true ∷ true ∷ true ∷ true ∷ true ∷ true ∷ true ∷ true ∷ true ∷ true ∷ true ∷ true ∷ true ∷ true ∷ true ∷ true ∷ true ∷ true ∷ true ∷ true ∷ true ∷ true ∷ true ∷ true ∷ true ∷ true ∷ true ∷ true ∷ true ∷ true ∷ true ∷ true ∷ true ∷ true ∷ true ∷ true ∷ true ∷ true ∷ true ∷ true ∷ true ∷ true ∷ true ∷ true ∷ true ∷ true ∷ true ∷ true ∷ true ∷ true ∷ true ∷ true ∷ true ∷ [])) ∷ []) ≡ Stopped Late 6 ∷ []
unfolding run int_wrap image_39
run_39 = refl

image_40 : Parts
image_40 = record {
  code = (4229955584 ∷ 4229955584 ∷ 4242538497 ∷ 4244635665 ∷ 3087073276 ∷ 4244635649 ∷ 3158638616 ∷ 3898605580 ∷ 4175429636 ∷ 3906994196 ∷ 820576255 ∷ 3087073256 ∷ 3163029508 ∷ 4244635648 ∷ 3158573060 ∷ 3087007748 ∷ 4246732800 ∷ 1082595328 ∷ 1214451712 ∷ 4236247040 ∷ 3087007888 ∷ 4242538498 ∷ 4244635704 ∷ 4242538497 ∷ 4244635670 ∷ 3158835204 ∷ 3087073272 ∷ 818413569 ∷ 4169138180 ∷ 1090918400 ∷ 816316415 ∷ 4244635670 ∷ 4244635670 ∷ 3087073272 ∷ 2952790016 ∷ 811794433 ∷ 4229955584 ∷ 4171235348 ∷ 4242538498 ∷ 4244635684 ∷ 4244635684 ∷ 3087007752 ∷ 3904897036 ∷ 4242538498 ∷ 4244635700 ∷ 4244635700 ∷ 3164864524 ∷ 3087073268 ∷ 3906994188 ∷ 4244635700 ∷ 4244635700 ∷ 4246732800 ∷ 3087073232 ∷ 4234149888 ∷ 4229955584 ∷ 4229955584 ∷ 4229955584 ∷ 3163094892 ∷ 4171235336 ∷ 4229955584 ∷ 3087073264 ∷ 4229955584 ∷ 4177526784 ∷ 4236247040 ∷ 3087007748 ∷ 4227858690 ∷ 4232052736 ∷ 4229955584 ∷ 4229955584 ∷ 4242538497 ∷ 4244635702 ∷ 4242538499 ∷ 4244635718 ∷ 3087073276 ∷ 4229955584 ∷ 4227858690 ∷ 4232052736 ∷ 4169138196 ∷ 4232052736 ∷ 3632805888 ∷ 3158835220 ∷ 2952790016 ∷ 811794433 ∷ 2952790016 ∷ 811794433 ∷ 4249288704 ∷ 820248575 ∷ 816185345 ∷ 4167041040 ∷ 4242538496 ∷ 4244635714 ∷ 3087073276 ∷ 4242538497 ∷ 4244635775 ∷ 3087073276 ∷ 822280195 ∷ 3162832968 ∷ 3902799872 ∷ 3162898496 ∷ 3156475956 ∷ 2952790016 ∷ 4242538500 ∷ 4244635763 ∷ 3087073276 ∷ 3898605572 ∷ 3634642944 ∷ 822542337 ∷ 4244635764 ∷ 3087073276 ∷ 4244635759 ∷ 4246732800 ∷ 3154313224 ∷ 4244635774 ∷ 4244635774 ∷ 3906994176 ∷ 3087073268 ∷ 4242538500 ∷ 3904897032 ∷ 3087007748 ∷ 4244635761 ∷ 3165061128 ∷ 4244635741 ∷ 3087073268 ∷ 4234149891 ∷ 816054273 ∷ 812056575 ∷ 818282499 ∷ 4229955584 ∷ 3087073264 ∷ []);
  memory = (pos 1 ∷ negsuc 0 ∷ pos 0 ∷ pos 1 ∷ negsuc 0 ∷ negsuc 0 ∷ []);
  inputs = (0 ∷ 5 ∷ []);
  outputs = (2 ∷ 3 ∷ []);
  slots = (8 ∷ 65 ∷ 123 ∷ 53 ∷ []);
  aborts = record { weak = true; cond = 83; handler = 53 } ∷ record { weak = false; cond = 83; handler = 53 } ∷ record { weak = true; cond = 81; handler = 57 } ∷ record { weak = false; cond = 79; handler = 123 } ∷ record { weak = false; cond = 81; handler = 66 } ∷ [];
  pauses = record { at = 0; slot = 3; stack = (0 ∷ 2 ∷ []) } ∷ record { at = 1; slot = 3; stack = (0 ∷ 2 ∷ []) } ∷ record { at = 36; slot = 3; stack = ([]) } ∷ record { at = 54; slot = 3; stack = (0 ∷ []) } ∷ record { at = 55; slot = 3; stack = (0 ∷ []) } ∷ record { at = 56; slot = 3; stack = (0 ∷ []) } ∷ record { at = 59; slot = 3; stack = (0 ∷ []) } ∷ record { at = 61; slot = 1; stack = (4 ∷ []) } ∷ record { at = 67; slot = 3; stack = (0 ∷ []) } ∷ record { at = 68; slot = 3; stack = (0 ∷ []) } ∷ record { at = 74; slot = 0; stack = ([]) } ∷ record { at = 127; slot = 2; stack = (3 ∷ []) } ∷ [];
  forks = record { at = 65; slot = 1; stack = ([]) } ∷ record { at = 75; slot = 0; stack = ([]) } ∷ [];
}

run_40 : seen image_40 (86 ∷ 104 ∷ 19 ∷ 153 ∷ 19 ∷ 107 ∷ 115 ∷ 88 ∷ 84 ∷ 247 ∷ 86 ∷ 179 ∷ 49 ∷ 224 ∷ 194 ∷ 41 ∷ 213 ∷ 216 ∷ 145 ∷ 230 ∷ 101 ∷ 67 ∷ []) 3000 (loaded_unit image_40) (loaded_cells image_40) (((negsuc 0 ∷ negsuc 2 ∷ []), ([])) ∷ []) ≡ Stopped TableEmpty 5 ∷ []
unfolding run int_wrap image_40
run_40 = refl

image_41 : Parts
image_41 = record {
  code = (2952855551 ∷ 2768568318 ∷ 4232052736 ∷ 2162630656 ∷ 3158507564 ∷ 1090727936 ∷ 4242538497 ∷ 4244635662 ∷ 3904897036 ∷ 2764439553 ∷ 3154509836 ∷ 3904897040 ∷ 3087073260 ∷ 4246732800 ∷ 352724992 ∷ 2952790016 ∷ 4242538498 ∷ 4244635684 ∷ 3898605572 ∷ 2952790016 ∷ 3164799036 ∷ 3165126664 ∷ 818413567 ∷ 4173332508 ∷ 3904897052 ∷ 2764439555 ∷ 3162898448 ∷ 4171235348 ∷ 3902799876 ∷ 3087007760 ∷ 2952855550 ∷ 2827223038 ∷ 4232052736 ∷ 2952855551 ∷ 3087073212 ∷ 4246732800 ∷ 4240441344 ∷ []);
  memory = (pos 5 ∷ pos 1 ∷ pos 1 ∷ pos 1 ∷ pos 0 ∷ pos 0 ∷ negsuc 0 ∷ pos 0 ∷ []);
  inputs = (2 ∷ 4 ∷ []);
  outputs = (7 ∷ []);
  slots = (0 ∷ []);
  aborts = [];
  pauses = [];
  forks = [];
}

run_41 : seen image_41 (2 ∷ 1 ∷ 2 ∷ 100 ∷ 1 ∷ 1 ∷ 2 ∷ 100 ∷ 2 ∷ 100 ∷ 100 ∷ 1 ∷ 1 ∷ 100 ∷ 100 ∷ 1 ∷ 100 ∷ 1 ∷ 100 ∷ 2 ∷ 1 ∷ 1 ∷ []) 3000 (loaded_unit image_41) (loaded_cells image_41) (((pos 1777401080 ∷ pos 0 ∷ []), ([])) ∷ ((pos 0 ∷ pos 1 ∷ []), ([])) ∷ ((negsuc 1428030327 ∷ negsuc 7 ∷ []), ([])) ∷ ((negsuc 0 ∷ pos 0 ∷ []), ([])) ∷ ((pos 1 ∷ pos 1 ∷ []), ([])) ∷ []) ≡ Ended 8 (pos 0 ∷ []) ∷ Ended 4 (pos 0 ∷ []) ∷ Ended 4 (pos 0 ∷ []) ∷ Ended 4 (pos 0 ∷ []) ∷ Ended 4 (pos 0 ∷ []) ∷ []
unfolding run int_wrap image_41
run_41 = refl

image_42 : Parts
image_42 = record {
  code = (272697344 ∷ 2214854656 ∷ 4167041024 ∷ 268503040 ∷ 2827019726 ∷ 3154378756 ∷ 1214517248 ∷ 4229955584 ∷ 3087073248 ∷ []);
  memory = (pos 0 ∷ pos 5 ∷ pos 3 ∷ pos 2147483647 ∷ []);
  inputs = (0 ∷ 1 ∷ []);
  outputs = (1 ∷ 2 ∷ 3 ∷ []);
  slots = (0 ∷ []);
  aborts = [];
  pauses = record { at = 7; slot = 0; stack = ([]) } ∷ [];
  forks = [];
}

run_42 : seen image_42 (2 ∷ 1 ∷ 1 ∷ 2 ∷ 1 ∷ 1 ∷ 100 ∷ 1 ∷ 2 ∷ 2 ∷ 2 ∷ 1 ∷ 100 ∷ 1 ∷ 100 ∷ 1 ∷ 2 ∷ 2 ∷ 1 ∷ 1 ∷ 1 ∷ 1 ∷ []) 3000 (loaded_unit image_42) (loaded_cells image_42) (((pos 0 ∷ negsuc 0 ∷ []), (false ∷ [])) ∷ ((pos 1 ∷ pos 579727331 ∷ []), (false ∷ [])) ∷ ((negsuc 1 ∷ negsuc 0 ∷ []), (false ∷ [])) ∷ ((negsuc 0 ∷ negsuc 6 ∷ []), (false ∷ [])) ∷ ((pos 1 ∷ negsuc 1547775970 ∷ []), (false ∷ [])) ∷ []) ≡ Ended 119 (negsuc 0 ∷ pos 3 ∷ pos 2147483647 ∷ []) ∷ Ended 120 (pos 579727331 ∷ pos 3 ∷ pos 2147483647 ∷ []) ∷ Ended 120 (negsuc 0 ∷ pos 3 ∷ pos 2147483647 ∷ []) ∷ Ended 120 (negsuc 6 ∷ pos 3 ∷ pos 2147483647 ∷ []) ∷ Ended 120 (negsuc 1547775970 ∷ pos 3 ∷ pos 2147483647 ∷ []) ∷ []
unfolding run int_wrap image_42
run_42 = refl

image_43 : Parts
image_43 = record {
  code = (3898605580 ∷ 3162701896 ∷ 3900702724 ∷ 4167041036 ∷ 820183041 ∷ 3898605572 ∷ 2952790016 ∷ 3158507544 ∷ 818216962 ∷ 3904897024 ∷ 1157906944 ∷ 4177526792 ∷ 3087007764 ∷ 3902799872 ∷ 2952790018 ∷ 820314110 ∷ 4169138180 ∷ 3904897036 ∷ 3087007792 ∷ 1147354112 ∷ 820445184 ∷ 4169138188 ∷ 3898605568 ∷ 3154313236 ∷ 3900702720 ∷ 344332289 ∷ 3902799876 ∷ 3087007756 ∷ 4169138184 ∷ 822411265 ∷ 822411264 ∷ 3909091332 ∷ 2952790016 ∷ 3165126692 ∷ 816316418 ∷ 4177526796 ∷ 3906994180 ∷ 2952790018 ∷ 820576249 ∷ 4169138176 ∷ 4169138188 ∷ 3087007760 ∷ 3904897032 ∷ 813891584 ∷ 3902799884 ∷ 4240441344 ∷ 3902799884 ∷ 2952855550 ∷ 2762276871 ∷ 4240441344 ∷ 3900702728 ∷ 3156475936 ∷ 2952790017 ∷ 2701721599 ∷ 818348032 ∷ 1225205760 ∷ 4229955584 ∷ 2952855551 ∷ 3087073248 ∷ 4232052736 ∷ []);
  memory = (negsuc 0 ∷ negsuc 0 ∷ pos 5 ∷ pos 0 ∷ []);
  inputs = ([]);
  outputs = ([]);
  slots = (50 ∷ []);
  aborts = [];
  pauses = record { at = 56; slot = 0; stack = ([]) } ∷ [];
  forks = [];
}

run_43 : seen image_43 (148 ∷ 113 ∷ 162 ∷ 118 ∷ 144 ∷ 121 ∷ 139 ∷ 166 ∷ 245 ∷ 28 ∷ 3 ∷ 173 ∷ 184 ∷ 125 ∷ 124 ∷ 210 ∷ 20 ∷ 74 ∷ 28 ∷ 171 ∷ 186 ∷ 53 ∷ []) 40 (loaded_unit image_43) (loaded_cells image_43) ((([]), ([])) ∷ []) ≡ Stopped Late 0 ∷ []
unfolding run int_wrap image_43
run_43 = refl

image_44 : Parts
image_44 = record {
  code = (3087073272 ∷ 4229955584 ∷ 4232052736 ∷ 4232052736 ∷ []);
  memory = (negsuc 0 ∷ pos 0 ∷ pos 0 ∷ negsuc 0 ∷ pos 0 ∷ negsuc 0 ∷ pos 0 ∷ []);
  inputs = (5 ∷ []);
  outputs = (0 ∷ []);
  slots = (0 ∷ []);
  aborts = [];
  pauses = record { at = 0; slot = 0; stack = ([]) } ∷ record { at = 1; slot = 0; stack = ([]) } ∷ [];
  forks = [];
}

run_44 : seen image_44 (235 ∷ 49 ∷ 49 ∷ 34 ∷ 67 ∷ 192 ∷ 64 ∷ 199 ∷ 13 ∷ 12 ∷ 173 ∷ 246 ∷ 210 ∷ 175 ∷ 112 ∷ 182 ∷ 10 ∷ 190 ∷ 183 ∷ 178 ∷ 189 ∷ 217 ∷ []) 3000 (loaded_unit image_44) (loaded_cells image_44) (((pos 1 ∷ []), ([])) ∷ []) ≡ Stopped OutOfCode 0 ∷ []
unfolding run int_wrap image_44
run_44 = refl

image_45 : Parts
image_45 = record {
  code = (811728903 ∷ 1140857856 ∷ 268566528 ∷ 1141113344 ∷ 2218854400 ∷ 3162767344 ∷ 2952810742 ∷ 2214594560 ∷ 1145181184 ∷ 2153775104 ∷ 4229955584 ∷ 3087073236 ∷ []);
  memory = (negsuc 6 ∷ negsuc 6 ∷ pos 2147483647 ∷ pos 3 ∷ []);
  inputs = (0 ∷ 1 ∷ []);
  outputs = (1 ∷ 2 ∷ 3 ∷ []);
  slots = (0 ∷ []);
  aborts = [];
  pauses = record { at = 10; slot = 0; stack = ([]) } ∷ [];
  forks = [];
}

run_45 : seen image_45 (1 ∷ 100 ∷ 2 ∷ 1 ∷ 2 ∷ 1 ∷ 1 ∷ 1 ∷ 100 ∷ 100 ∷ 2 ∷ 1 ∷ 100 ∷ 100 ∷ 100 ∷ 1 ∷ 100 ∷ 1 ∷ 100 ∷ 1 ∷ 1 ∷ 2 ∷ []) 3000 (loaded_unit image_45) (loaded_cells image_45) (((pos 0 ∷ pos 0 ∷ []), (true ∷ true ∷ true ∷ true ∷ true ∷ true ∷ true ∷ true ∷ true ∷ [])) ∷ []) ≡ Stopped Late 5 ∷ []
unfolding run int_wrap image_45
run_45 = refl

image_46 : Parts
image_46 = record {
  code = (3906994192 ∷ 2952790016 ∷ 811794433 ∷ 4236247040 ∷ 3087007748 ∷ 2952790016 ∷ 811794433 ∷ 4234149888 ∷ 4229955584 ∷ 4229955584 ∷ 3087007920 ∷ 2952790017 ∷ 811794433 ∷ 2952790017 ∷ 811794433 ∷ 3898605576 ∷ 3156541628 ∷ 3165061300 ∷ 2952790017 ∷ 811794433 ∷ 3087007908 ∷ 1220739072 ∷ 4229955584 ∷ 4236247040 ∷ 3087007912 ∷ 4242538499 ∷ 4244635677 ∷ 4244635678 ∷ 3087073272 ∷ 811991043 ∷ 814153727 ∷ 4234149891 ∷ 4229955584 ∷ 3087073236 ∷ 4242538500 ∷ 4244635687 ∷ 4167041024 ∷ 3087073272 ∷ 4246732800 ∷ 4229955584 ∷ 2952790016 ∷ 811794433 ∷ 4242538497 ∷ 4244635687 ∷ 3162701828 ∷ 3154575368 ∷ 3087073268 ∷ 4244635680 ∷ 3087073260 ∷ 3640995840 ∷ 4229955584 ∷ 811859971 ∷ 4236247040 ∷ 4229955584 ∷ 3087073096 ∷ 3900702720 ∷ 2952790017 ∷ 811794433 ∷ 2952790017 ∷ 811794433 ∷ 3087007752 ∷ 3154575368 ∷ 3909091340 ∷ 4249092096 ∷ 2952790017 ∷ 811794433 ∷ 4229955584 ∷ 3087073108 ∷ 3160932372 ∷ 4171235336 ∷ 3158638604 ∷ 2952790016 ∷ 811794433 ∷ 4232052736 ∷ []);
  memory = (pos 1 ∷ pos 1 ∷ pos 1 ∷ pos 0 ∷ negsuc 0 ∷ negsuc 0 ∷ []);
  inputs = ([]);
  outputs = ([]);
  slots = (7 ∷ []);
  aborts = record { weak = false; cond = 17; handler = 5 } ∷ record { weak = true; cond = 56; handler = 54 } ∷ record { weak = false; cond = 16; handler = 0 } ∷ record { weak = true; cond = 15; handler = 30 } ∷ [];
  pauses = record { at = 8; slot = 0; stack = (0 ∷ []) } ∷ record { at = 9; slot = 0; stack = (0 ∷ []) } ∷ record { at = 22; slot = 0; stack = (0 ∷ 1 ∷ 3 ∷ []) } ∷ record { at = 32; slot = 0; stack = (0 ∷ 1 ∷ 3 ∷ []) } ∷ record { at = 39; slot = 0; stack = (0 ∷ 1 ∷ 3 ∷ []) } ∷ record { at = 50; slot = 0; stack = (0 ∷ 2 ∷ []) } ∷ record { at = 53; slot = 0; stack = (0 ∷ []) } ∷ record { at = 66; slot = 0; stack = (0 ∷ 1 ∷ []) } ∷ [];
  forks = [];
}

run_46 : seen image_46 (130 ∷ 165 ∷ 74 ∷ 102 ∷ 151 ∷ 249 ∷ 95 ∷ 84 ∷ 221 ∷ 221 ∷ 27 ∷ 224 ∷ 84 ∷ 163 ∷ 94 ∷ 19 ∷ 62 ∷ 240 ∷ 108 ∷ 44 ∷ 28 ∷ 21 ∷ []) 40 (loaded_unit image_46) (loaded_cells image_46) ((([]), ([])) ∷ []) ≡ Stopped Late 7 ∷ []
unfolding run int_wrap image_46
run_46 = refl

image_47 : Parts
image_47 = record {
  code = (4173332500 ∷ 1155866624 ∷ 2952855549 ∷ 2825388030 ∷ 4229955584 ∷ 3087073260 ∷ 4232052736 ∷ []);
  memory = (pos 5 ∷ pos 0 ∷ pos 0 ∷ pos 0 ∷ negsuc 0 ∷ pos 1 ∷ pos 0 ∷ pos 0 ∷ []);
  inputs = (0 ∷ []);
  outputs = (2 ∷ []);
  slots = (0 ∷ []);
  aborts = [];
  pauses = record { at = 4; slot = 0; stack = ([]) } ∷ [];
  forks = [];
}

run_47 : seen image_47 (1 ∷ 1 ∷ 1 ∷ 1 ∷ 1 ∷ 1 ∷ 1 ∷ 1 ∷ 1 ∷ 1 ∷ 1 ∷ 1 ∷ 1 ∷ 1 ∷ 1 ∷ 1 ∷ 1 ∷ 1 ∷ 1 ∷ 1 ∷ 1 ∷ 1 ∷ []) 3000 (loaded_unit image_47) (loaded_cells image_47) (((negsuc 672292331 ∷ []), ([])) ∷ ((negsuc 0 ∷ []), ([])) ∷ ((pos 1 ∷ []), ([])) ∷ ((pos 7 ∷ []), ([])) ∷ ((pos 805741695 ∷ []), ([])) ∷ []) ≡ Ended 8 (pos 0 ∷ []) ∷ Ended 9 (pos 0 ∷ []) ∷ Ended 9 (pos 0 ∷ []) ∷ Ended 9 (pos 0 ∷ []) ∷ Ended 9 (pos 0 ∷ []) ∷ []
unfolding run int_wrap image_47
run_47 = refl

image_48 : Parts
image_48 = record {
  code = (2223247360 ∷ 3164864520 ∷ 3158507520 ∷ 2214791168 ∷ 1082400768 ∷ 2220949504 ∷ 341837825 ∷ 2753666298 ∷ 3896508424 ∷ 3158507488 ∷ 1212284928 ∷ 4229955584 ∷ 3087073232 ∷ []);
  memory = (negsuc 2147483647 ∷ negsuc 6 ∷ pos 3 ∷ pos 5 ∷ []);
  inputs = (0 ∷ 1 ∷ []);
  outputs = (1 ∷ 2 ∷ 3 ∷ []);
  slots = (0 ∷ []);
  aborts = [];
  pauses = record { at = 11; slot = 0; stack = ([]) } ∷ [];
  forks = [];
}

run_48 : seen image_48 (100 ∷ 1 ∷ 1 ∷ 100 ∷ 2 ∷ 1 ∷ 2 ∷ 1 ∷ 2 ∷ 2 ∷ 100 ∷ 1 ∷ 1 ∷ 1 ∷ 1 ∷ 2 ∷ 100 ∷ 2 ∷ 100 ∷ 1 ∷ 1 ∷ 2 ∷ []) 3000 (loaded_unit image_48) (loaded_cells image_48) (((pos 0 ∷ negsuc 129332032 ∷ []), (true ∷ false ∷ [])) ∷ ((negsuc 0 ∷ pos 1 ∷ []), (true ∷ false ∷ [])) ∷ ((negsuc 3 ∷ pos 0 ∷ []), (true ∷ false ∷ [])) ∷ ((negsuc 0 ∷ negsuc 6 ∷ []), (true ∷ false ∷ [])) ∷ ((pos 1 ∷ pos 0 ∷ []), (true ∷ false ∷ [])) ∷ []) ≡ Ended 619 (negsuc 129332032 ∷ pos 3 ∷ pos 5 ∷ []) ∷ Ended 620 (pos 1 ∷ pos 3 ∷ pos 5 ∷ []) ∷ Ended 620 (pos 0 ∷ pos 3 ∷ pos 5 ∷ []) ∷ Ended 620 (negsuc 6 ∷ pos 3 ∷ pos 5 ∷ []) ∷ Ended 620 (pos 0 ∷ pos 3 ∷ pos 5 ∷ []) ∷ []
unfolding run int_wrap image_48
run_48 = refl

image_49 : Parts
image_49 = record {
  code = (4169138176 ∷ 4242538500 ∷ 4244635697 ∷ 3164995588 ∷ 4244635696 ∷ 3087073276 ∷ 3164799068 ∷ 4229955584 ∷ 3162963972 ∷ 4229955584 ∷ 2952790016 ∷ 811794433 ∷ 4242538497 ∷ 4244635673 ∷ 3087007748 ∷ 4242538497 ∷ 4244635661 ∷ 4244635661 ∷ 3906994180 ∷ 3902799892 ∷ 3087073264 ∷ 818216959 ∷ 4244635661 ∷ 1084622848 ∷ 3087073252 ∷ 4229955584 ∷ 3087073212 ∷ 2952790017 ∷ 811794433 ∷ 4229955584 ∷ 1157893120 ∷ 4229955584 ∷ 4229955584 ∷ 3087073176 ∷ 3906994184 ∷ 822607875 ∷ 3904897040 ∷ 3162767372 ∷ 2952790017 ∷ 811794433 ∷ 3162701828 ∷ 4249026560 ∷ 4229955584 ∷ 4229955584 ∷ 2952790016 ∷ 811794433 ∷ 3087073264 ∷ 4227858690 ∷ 4229955584 ∷ 3154444284 ∷ 816054271 ∷ 3162767356 ∷ 4242538500 ∷ 4244635696 ∷ 3087007748 ∷ 4242538499 ∷ 4244635701 ∷ 3087073276 ∷ []);
  memory = (negsuc 0 ∷ pos 0 ∷ pos 1 ∷ negsuc 0 ∷ pos 0 ∷ pos 0 ∷ []);
  inputs = (0 ∷ []);
  outputs = (3 ∷ []);
  slots = (52 ∷ 42 ∷ 31 ∷ []);
  aborts = [];
  pauses = record { at = 7; slot = 2; stack = ([]) } ∷ record { at = 9; slot = 2; stack = ([]) } ∷ record { at = 25; slot = 2; stack = ([]) } ∷ record { at = 29; slot = 2; stack = ([]) } ∷ record { at = 31; slot = 2; stack = ([]) } ∷ record { at = 32; slot = 2; stack = ([]) } ∷ record { at = 42; slot = 1; stack = ([]) } ∷ record { at = 43; slot = 1; stack = ([]) } ∷ record { at = 48; slot = 0; stack = ([]) } ∷ [];
  forks = record { at = 47; slot = 0; stack = ([]) } ∷ [];
}

run_49 : seen image_49 (75 ∷ 114 ∷ 23 ∷ 204 ∷ 17 ∷ 182 ∷ 117 ∷ 64 ∷ 108 ∷ 252 ∷ 165 ∷ 184 ∷ 235 ∷ 191 ∷ 191 ∷ 197 ∷ 35 ∷ 5 ∷ 184 ∷ 254 ∷ 161 ∷ 9 ∷ []) 40 (loaded_unit image_49) (loaded_cells image_49) (((negsuc 1672869429 ∷ []), ([])) ∷ []) ≡ Stopped Late 53 ∷ []
unfolding run int_wrap image_49
run_49 = refl

image_50 : Parts
image_50 = record {
  code = (3162832900 ∷ 4232052736 ∷ 4229955584 ∷ 822607875 ∷ 2952790016 ∷ 4242538499 ∷ 4244635649 ∷ 4242538497 ∷ 4244635654 ∷ 3087073276 ∷ 3902799884 ∷ 3087073268 ∷ 4167041028 ∷ 3087007752 ∷ 4229955584 ∷ 4232052736 ∷ 2952790016 ∷ 811794433 ∷ 3160801304 ∷ 2952790017 ∷ 811794433 ∷ 1084622848 ∷ 3154444296 ∷ 3154509828 ∷ 4249288704 ∷ 4242538500 ∷ 4244635725 ∷ 3902799872 ∷ 4246732800 ∷ 4229955584 ∷ 3087007744 ∷ 3160670216 ∷ 3087007748 ∷ 4234149888 ∷ 2952790017 ∷ 811794433 ∷ 4242538499 ∷ 3087007752 ∷ 4244635722 ∷ 812056579 ∷ 4242538499 ∷ 4244635694 ∷ 4169138192 ∷ 3087073272 ∷ 4238344265 ∷ 4238344265 ∷ 4238344265 ∷ 822411267 ∷ 813891585 ∷ 4242538500 ∷ 4244635703 ∷ 3087073276 ∷ 4238344265 ∷ 3158573060 ∷ 4246732800 ∷ 2952790016 ∷ 4242538497 ∷ 4244635686 ∷ 3160670216 ∷ 4244635686 ∷ 3087073268 ∷ 3632609280 ∷ 813957121 ∷ 4229955584 ∷ 4229955584 ∷ 3087073268 ∷ 4229955584 ∷ 4238344263 ∷ 4229955584 ∷ 3087073272 ∷ 1080301568 ∷ 4177526788 ∷ 3156738052 ∷ 4240441344 ∷ 4238344265 ∷ 4234149889 ∷ 3087073268 ∷ 4242538500 ∷ 4244635677 ∷ 4242538496 ∷ 4244635726 ∷ 4244635726 ∷ 3087073272 ∷ []);
  memory = (pos 0 ∷ pos 0 ∷ negsuc 0 ∷ pos 1 ∷ pos 1 ∷ pos 1 ∷ []);
  inputs = ([]);
  outputs = ([]);
  slots = (15 ∷ 31 ∷ 55 ∷ 0 ∷ []);
  aborts = record { weak = false; cond = 23; handler = 32 } ∷ record { weak = true; cond = 21; handler = 74 } ∷ record { weak = true; cond = 24; handler = 2 } ∷ [];
  pauses = record { at = 2; slot = 3; stack = ([]) } ∷ record { at = 14; slot = 0; stack = ([]) } ∷ record { at = 29; slot = 1; stack = (0 ∷ 1 ∷ []) } ∷ record { at = 63; slot = 3; stack = (2 ∷ []) } ∷ record { at = 64; slot = 3; stack = (2 ∷ []) } ∷ record { at = 66; slot = 2; stack = ([]) } ∷ record { at = 68; slot = 2; stack = ([]) } ∷ [];
  forks = [];
}

run_50 : seen image_50 (1 ∷ 1 ∷ 1 ∷ 1 ∷ 1 ∷ 1 ∷ 1 ∷ 1 ∷ 1 ∷ 1 ∷ 1 ∷ 1 ∷ 1 ∷ 1 ∷ 1 ∷ 1 ∷ 1 ∷ 1 ∷ 1 ∷ 1 ∷ 1 ∷ 1 ∷ []) 3000 (loaded_unit image_50) (loaded_cells image_50) ((([]), ([])) ∷ (([]), ([])) ∷ (([]), ([])) ∷ (([]), ([])) ∷ (([]), ([])) ∷ []) ≡ Ended 2 ([]) ∷ Ended 1 ([]) ∷ Ended 1 ([]) ∷ Ended 1 ([]) ∷ Ended 1 ([]) ∷ []
unfolding run int_wrap image_50
run_50 = refl

image_51 : Parts
image_51 = record {
  code = (2827091967 ∷ 3896508428 ∷ 3898605584 ∷ 3158573076 ∷ 3154247700 ∷ 3156344836 ∷ 1147142144 ∷ 276955136 ∷ 2753691655 ∷ 4229955584 ∷ 3087073240 ∷ []);
  memory = (pos 2147483647 ∷ pos 3 ∷ pos 5 ∷ pos 0 ∷ []);
  inputs = (0 ∷ 1 ∷ []);
  outputs = (1 ∷ 2 ∷ 3 ∷ []);
  slots = (0 ∷ []);
  aborts = [];
  pauses = record { at = 9; slot = 0; stack = ([]) } ∷ [];
  forks = [];
}

run_51 : seen image_51 (245 ∷ 215 ∷ 44 ∷ 121 ∷ 4 ∷ 233 ∷ 16 ∷ 253 ∷ 28 ∷ 211 ∷ 202 ∷ 212 ∷ 189 ∷ 210 ∷ 203 ∷ 152 ∷ 28 ∷ 45 ∷ 141 ∷ 253 ∷ 243 ∷ 119 ∷ []) 40 (loaded_unit image_51) (loaded_cells image_51) (((pos 1 ∷ negsuc 1666341755 ∷ []), ([])) ∷ []) ≡ Stopped Late 0 ∷ []
unfolding run int_wrap image_51
run_51 = refl

image_52 : Parts
image_52 = record {
  code = (4227858690 ∷ 4232052736 ∷ 4167041044 ∷ 4227859203 ∷ 4232052736 ∷ 818348031 ∷ 1149445120 ∷ 4232052736 ∷ 4229955584 ∷ 4232052736 ∷ 4234149888 ∷ 3900702736 ∷ 3154378796 ∷ 3900702724 ∷ 3156475928 ∷ 820248578 ∷ 822411263 ∷ 352786433 ∷ 4229955584 ∷ 3087073256 ∷ 3898605572 ∷ 1158167040 ∷ 3087007764 ∷ 277164032 ∷ 2952855550 ∷ 820314110 ∷ 3909091336 ∷ 4169138176 ∷ 4236247040 ∷ 4232052736 ∷ 3909091352 ∷ 3902799880 ∷ 2762276865 ∷ 3164930056 ∷ 1086603264 ∷ 4249354240 ∷ 3909091336 ∷ 4171235348 ∷ 4232052736 ∷ []);
  memory = (pos 0 ∷ pos 5 ∷ pos 5 ∷ pos 0 ∷ pos 0 ∷ pos 1 ∷ negsuc 0 ∷ []);
  inputs = (2 ∷ 6 ∷ []);
  outputs = ([]);
  slots = (0 ∷ 2 ∷ 5 ∷ 8 ∷ 10 ∷ 36 ∷ []);
  aborts = record { weak = true; cond = 30; handler = 29 } ∷ [];
  pauses = record { at = 8; slot = 3; stack = ([]) } ∷ record { at = 18; slot = 4; stack = (0 ∷ []) } ∷ [];
  forks = record { at = 0; slot = 0; stack = ([]) } ∷ record { at = 3; slot = 1; stack = ([]) } ∷ [];
}

run_52 : seen image_52 (1 ∷ 1 ∷ 1 ∷ 1 ∷ 1 ∷ 1 ∷ 1 ∷ 1 ∷ 1 ∷ 1 ∷ 1 ∷ 1 ∷ 1 ∷ 1 ∷ 1 ∷ 1 ∷ 1 ∷ 1 ∷ 1 ∷ 1 ∷ 1 ∷ 1 ∷ []) 3000 (loaded_unit image_52) (loaded_cells image_52) (((negsuc 0 ∷ pos 4 ∷ []), (true ∷ [])) ∷ ((negsuc 3 ∷ pos 0 ∷ []), ([])) ∷ ((pos 1 ∷ pos 6 ∷ []), ([])) ∷ ((pos 4 ∷ negsuc 0 ∷ []), ([])) ∷ ((negsuc 6 ∷ pos 1 ∷ []), ([])) ∷ []) ≡ Ended 23 ([]) ∷ Ended 6 ([]) ∷ Ended 3 ([]) ∷ Ended 3 ([]) ∷ Ended 3 ([]) ∷ []
unfolding run int_wrap image_52
run_52 = refl

image_53 : Parts
image_53 = record {
  code = (4244635671 ∷ 3156738136 ∷ 2952790016 ∷ 4242538499 ∷ 3906994188 ∷ 1088698368 ∷ 3087073272 ∷ 4229955584 ∷ 283318272 ∷ 4229955584 ∷ 3087073268 ∷ 3154444300 ∷ 816250879 ∷ 4249092096 ∷ 3158900732 ∷ 4249157632 ∷ 814088191 ∷ 4229955584 ∷ 3087007832 ∷ 4177526784 ∷ 4229955584 ∷ 4232052736 ∷ 3164930056 ∷ 4229955584 ∷ 2952790016 ∷ 4242538498 ∷ 4244635671 ∷ 3087073276 ∷ 4227859201 ∷ 4229955584 ∷ 4227858690 ∷ 4232052736 ∷ 4229955584 ∷ 2952790016 ∷ 811794433 ∷ 3906994192 ∷ 4232052736 ∷ 3162898436 ∷ 4234149889 ∷ 4229955584 ∷ 3087073188 ∷ 4229955584 ∷ 3087007744 ∷ []);
  memory = (pos 1 ∷ negsuc 0 ∷ pos 0 ∷ pos 0 ∷ pos 0 ∷ pos 0 ∷ []);
  inputs = (5 ∷ 2 ∷ []);
  outputs = ([]);
  slots = (28 ∷ 19 ∷ 41 ∷ 23 ∷ []);
  aborts = record { weak = true; cond = 14; handler = 41 } ∷ record { weak = true; cond = 12; handler = 38 } ∷ [];
  pauses = record { at = 7; slot = 1; stack = ([]) } ∷ record { at = 9; slot = 1; stack = ([]) } ∷ record { at = 17; slot = 2; stack = (0 ∷ 1 ∷ []) } ∷ record { at = 20; slot = 1; stack = ([]) } ∷ record { at = 23; slot = 3; stack = ([]) } ∷ record { at = 29; slot = 0; stack = ([]) } ∷ record { at = 39; slot = 2; stack = (0 ∷ 1 ∷ []) } ∷ record { at = 41; slot = 2; stack = ([]) } ∷ [];
  forks = record { at = 28; slot = 0; stack = ([]) } ∷ record { at = 30; slot = 0; stack = ([]) } ∷ [];
}

run_53 : seen image_53 (1 ∷ 1 ∷ 1 ∷ 1 ∷ 1 ∷ 1 ∷ 1 ∷ 1 ∷ 1 ∷ 1 ∷ 1 ∷ 1 ∷ 1 ∷ 1 ∷ 1 ∷ 1 ∷ 1 ∷ 1 ∷ 1 ∷ 1 ∷ 1 ∷ 1 ∷ []) 300 (loaded_unit image_53) (loaded_cells image_53) (((pos 1 ∷ negsuc 0 ∷ []), ([])) ∷ ((negsuc 0 ∷ pos 1 ∷ []), ([])) ∷ ((negsuc 1553925684 ∷ negsuc 0 ∷ []), ([])) ∷ ((negsuc 1489405505 ∷ pos 1 ∷ []), ([])) ∷ ((negsuc 4 ∷ pos 0 ∷ []), ([])) ∷ []) ≡ Ended 5 ([]) ∷ Ended 11 ([]) ∷ Ended 11 ([]) ∷ Ended 11 ([]) ∷ Ended 11 ([]) ∷ []
unfolding run int_wrap image_53
run_53 = refl

image_54 : Parts
image_54 = record {
  code = (2692907008 ∷ 3626176512 ∷ 4167041028 ∷ 3160539124 ∷ 2760081407 ∷ 1149377536 ∷ 1149304832 ∷ 3154313204 ∷ 4229955584 ∷ 3087073244 ∷ []);
  memory = (pos 2147483647 ∷ negsuc 2147483647 ∷ pos 0 ∷ pos 2147483647 ∷ []);
  inputs = (0 ∷ 1 ∷ []);
  outputs = (1 ∷ 2 ∷ 3 ∷ []);
  slots = (0 ∷ []);
  aborts = [];
  pauses = record { at = 8; slot = 0; stack = ([]) } ∷ [];
  forks = [];
}

run_54 : seen image_54 (1 ∷ 1 ∷ 1 ∷ 1 ∷ 1 ∷ 1 ∷ 1 ∷ 1 ∷ 1 ∷ 1 ∷ 1 ∷ 1 ∷ 1 ∷ 1 ∷ 1 ∷ 1 ∷ 1 ∷ 1 ∷ 1 ∷ 1 ∷ 1 ∷ 1 ∷ []) 3000 (loaded_unit image_54) (loaded_cells image_54) (((pos 0 ∷ pos 1 ∷ []), (true ∷ true ∷ true ∷ true ∷ true ∷ true ∷ true ∷ true ∷ true ∷ true ∷ true ∷ true ∷ true ∷ true ∷ true ∷ true ∷ true ∷ true ∷ true ∷ true ∷ true ∷ true ∷ true ∷ true ∷ true ∷ true ∷ true ∷ true ∷ true ∷ true ∷ true ∷ true ∷ true ∷ true ∷ true ∷ true ∷ true ∷ true ∷ true ∷ true ∷ true ∷ true ∷ true ∷ true ∷ true ∷ true ∷ true ∷ true ∷ true ∷ true ∷ true ∷ true ∷ true ∷ true ∷ true ∷ true ∷ true ∷ true ∷ true ∷ true ∷ true ∷ true ∷ true ∷ true ∷ true ∷ true ∷ true ∷ true ∷ true ∷ true ∷ true ∷ true ∷ true ∷ true ∷ true ∷ true ∷ true ∷ true ∷ true ∷ true ∷ true ∷ true ∷ true ∷ true ∷ true ∷ true ∷ true ∷ true ∷ true ∷ true ∷ true ∷ true ∷ true ∷ true ∷ true ∷ true ∷ true ∷ true ∷ true ∷ true ∷ true ∷ true ∷ true ∷ true ∷ true ∷ true ∷ true ∷ true ∷ true ∷ true ∷ true ∷ true ∷ true ∷ true ∷ true ∷ true ∷ true ∷ true ∷ true ∷ true ∷ true ∷ true ∷ true ∷ true ∷ true ∷ true ∷ true ∷ true ∷ true ∷ true ∷ true ∷ true ∷ true ∷ true ∷ true ∷ true ∷ true ∷ true ∷ true ∷ true ∷ true ∷ true ∷ true ∷ true ∷ true ∷ true ∷ true ∷ true ∷ true ∷ true ∷ true ∷ true ∷ true ∷ true ∷ true ∷ true ∷ true ∷ true ∷ true ∷ true ∷ true ∷ true ∷ true ∷ true ∷ true ∷ true ∷ true ∷ true ∷ true ∷ true ∷ true ∷ true ∷ true ∷ true ∷ true ∷ true ∷ true ∷ true ∷ true ∷ true ∷ true ∷ true ∷ true ∷ true ∷ true ∷ true ∷ true ∷ true ∷ true ∷ true ∷ true ∷ true ∷ true ∷ true ∷ true ∷ true ∷ true ∷ true ∷ true ∷ true ∷ true ∷ true ∷ true ∷ true ∷ true ∷ true ∷ true ∷ true ∷ true ∷ true ∷ true ∷ true ∷ true ∷ true ∷ true ∷ true ∷ true ∷ true ∷ true ∷ true ∷ true ∷ true ∷ true ∷ true ∷ true ∷ true ∷ true ∷ true ∷ true ∷ true ∷ true ∷ true ∷ true ∷ true ∷ true ∷ true ∷ true ∷ true ∷ true ∷ true ∷ true ∷ true ∷ true ∷ true ∷ true ∷ true ∷ true ∷ true ∷ true ∷ true ∷ true ∷ true ∷ true ∷ true ∷ true ∷ true ∷ true ∷ true ∷ true ∷ true ∷ true ∷ true ∷ true ∷ true ∷ true ∷ true ∷ true ∷ true ∷ true ∷ true ∷ true ∷ true ∷ true ∷ true ∷ true ∷ true ∷ true ∷ true ∷ true ∷ true ∷ true ∷ true ∷ true ∷ true ∷ true ∷ true ∷ true ∷ true ∷ true ∷ true ∷ true ∷ true ∷ true ∷ true ∷ true ∷ true ∷ true ∷ true ∷ true ∷ true ∷ true ∷ true ∷ true ∷ true ∷ true ∷ true ∷ true ∷ true ∷ true ∷ true ∷ true ∷ true ∷ true ∷ true ∷ true ∷ true ∷ true ∷ true ∷ true ∷ true ∷ true ∷ true ∷ true ∷ true ∷ true ∷ true ∷ true ∷ true ∷ true ∷ true ∷ true ∷ true ∷ true ∷ true ∷ true ∷ true ∷ true ∷ true ∷ true ∷ true ∷ true ∷ true ∷ true ∷ true ∷ true ∷ true ∷ true ∷ true ∷ true ∷ true ∷ true ∷ true ∷ true ∷ true ∷ true ∷ true ∷ true ∷ true ∷ true ∷ true ∷ true ∷ true ∷ true ∷ true ∷ true ∷ true ∷ true ∷ true ∷ true ∷ true ∷ true ∷ true ∷ true ∷ true ∷ true ∷ true ∷ true ∷ true ∷ true ∷ true ∷ true ∷ true ∷ true ∷ true ∷ true ∷ true ∷ true ∷ true ∷ true ∷ true ∷ true ∷ true ∷ true ∷ true ∷ true ∷ true ∷ true ∷ true ∷ true ∷ true ∷ true ∷ true ∷ true ∷ true ∷ true ∷ true ∷ true ∷ true ∷ true ∷ true ∷ true ∷ true ∷ true ∷ true ∷ true ∷ true ∷ true ∷ true ∷ true ∷ true ∷ true ∷ true ∷ true ∷ true ∷ true ∷ true ∷ true ∷ true ∷ true ∷ true ∷ true ∷ true ∷ true ∷ true ∷ true ∷ true ∷ true ∷ true ∷ true ∷ true ∷ true ∷ true ∷ true ∷ true ∷ true ∷ true ∷ true ∷ true ∷ true ∷ true ∷ true ∷ true ∷ true ∷ true ∷ true ∷ true ∷ true ∷ true ∷ true ∷ true ∷ true ∷ true ∷ true ∷ true ∷ true ∷ true ∷ true ∷ true ∷ true ∷ true ∷ true ∷ true ∷ true ∷ true ∷ true ∷ true ∷ true ∷ true ∷ true ∷ true ∷ true ∷ true ∷ true ∷ true ∷ true ∷ true ∷ true ∷ true ∷ true ∷ true ∷ true ∷ true ∷ true ∷ true ∷ true ∷ true ∷ true ∷ true ∷ true ∷ true ∷ true ∷ true ∷ true ∷ true ∷ true ∷ true ∷ true ∷ true ∷ true ∷ true ∷ true ∷ true ∷ true ∷ true ∷ true ∷ true ∷ true ∷ true ∷ true ∷ true ∷ true ∷ true ∷ true ∷ true ∷ true ∷ true ∷ true ∷ true ∷ true ∷ true ∷ true ∷ true ∷ true ∷ true ∷ true ∷ true ∷ true ∷ true ∷ true ∷ true ∷ true ∷ true ∷ true ∷ true ∷ true ∷ true ∷ true ∷ true ∷ true ∷ true ∷ true ∷ true ∷ true ∷ true ∷ true ∷ true ∷ true ∷ true ∷ true ∷ true ∷ true ∷ true ∷ true ∷ true ∷ true ∷ true ∷ true ∷ true ∷ true ∷ true ∷ true ∷ true ∷ true ∷ true ∷ true ∷ true ∷ true ∷ true ∷ true ∷ true ∷ true ∷ true ∷ true ∷ true ∷ true ∷ true ∷ true ∷ true ∷ true ∷ true ∷ true ∷ true ∷ true ∷ true ∷ true ∷ true ∷ true ∷ true ∷ true ∷ true ∷ true ∷ true ∷ true ∷ true ∷ true ∷ true ∷ true ∷ true ∷ true ∷ true ∷ true ∷ true ∷ true ∷ true ∷ true ∷ true ∷ true ∷ true ∷ true ∷ true ∷ true ∷ true ∷ true ∷ true ∷ true ∷ true ∷ true ∷ true ∷ true ∷ true ∷ true ∷ true ∷ true ∷ true ∷ true ∷ true ∷ true ∷ true ∷ true ∷ true ∷ true ∷ true ∷ true ∷ true ∷ true ∷ true ∷ true ∷ true ∷ true ∷ true ∷ true ∷ true ∷ true ∷ true ∷ true ∷ true ∷ true ∷ true ∷ true ∷ true ∷ true ∷ true ∷ true ∷ true ∷ true ∷ true ∷ true ∷ true ∷ true ∷ true ∷ true ∷ true ∷ true ∷ true ∷ true ∷ true ∷ true ∷ true ∷ true ∷ true ∷ true ∷ true ∷ true ∷ true ∷ true ∷ true ∷ true ∷ true ∷ true ∷ true ∷ true ∷ true ∷ true ∷ true ∷ true ∷ true ∷ true ∷ true ∷ true ∷ true ∷ true ∷ true ∷ true ∷ true ∷ true ∷ true ∷ true ∷ true ∷ true ∷ true ∷ true ∷ true ∷ true ∷ true ∷ true ∷ true ∷ true ∷ true ∷ true ∷ true ∷ true ∷ true ∷ true ∷ true ∷ true ∷ true ∷ true ∷ true ∷ true ∷ true ∷ true ∷ true ∷ true ∷ true ∷ true ∷ true ∷ true ∷ true ∷ true ∷ true ∷ true ∷ true ∷ true ∷ true ∷ true ∷ true ∷ true ∷ true ∷ [])) ∷ []) ≡ Stopped Late 2 ∷ []
unfolding run int_wrap image_54
run_54 = refl

image_55 : Parts
image_55 = record {
  code = (3156672516 ∷ 4227858689 ∷ 4229955584 ∷ 3087007744 ∷ 4173332484 ∷ 4242538496 ∷ 4244635650 ∷ 4169138180 ∷ 822607873 ∷ 3087073268 ∷ 815988739 ∷ 4229955584 ∷ 4229955584 ∷ 3087073272 ∷ []);
  memory = (negsuc 0 ∷ pos 1 ∷ pos 0 ∷ negsuc 0 ∷ negsuc 0 ∷ pos 1 ∷ []);
  inputs = ([]);
  outputs = (1 ∷ 4 ∷ []);
  slots = (3 ∷ 11 ∷ []);
  aborts = [];
  pauses = record { at = 2; slot = 0; stack = ([]) } ∷ record { at = 11; slot = 1; stack = ([]) } ∷ record { at = 12; slot = 1; stack = ([]) } ∷ [];
  forks = record { at = 1; slot = 0; stack = ([]) } ∷ [];
}

run_55 : seen image_55 (4 ∷ 5 ∷ 7 ∷ 2 ∷ 7 ∷ 6 ∷ 2 ∷ 2 ∷ 8 ∷ 1 ∷ 8 ∷ 8 ∷ 6 ∷ 2 ∷ 4 ∷ 7 ∷ 2 ∷ 7 ∷ 5 ∷ 2 ∷ 7 ∷ 3 ∷ []) 40 (loaded_unit image_55) (loaded_cells image_55) ((([]), ([])) ∷ []) ≡ Stopped Late 3 ∷ []
unfolding run int_wrap image_55
run_55 = refl

image_56 : Parts
image_56 = record {
  code = (4229955584 ∷ 4232052736 ∷ []);
  memory = (negsuc 0 ∷ pos 0 ∷ pos 5 ∷ pos 0 ∷ pos 0 ∷ pos 5 ∷ pos 0 ∷ []);
  inputs = ([]);
  outputs = (5 ∷ 3 ∷ []);
  slots = (0 ∷ []);
  aborts = [];
  pauses = record { at = 0; slot = 0; stack = ([]) } ∷ [];
  forks = [];
}

run_56 : seen image_56 (2 ∷ 4 ∷ 9 ∷ 4 ∷ 8 ∷ 3 ∷ 7 ∷ 3 ∷ 2 ∷ 4 ∷ 9 ∷ 3 ∷ 4 ∷ 3 ∷ 3 ∷ 9 ∷ 8 ∷ 6 ∷ 1 ∷ 1 ∷ 6 ∷ 1 ∷ []) 40 (loaded_unit image_56) (loaded_cells image_56) ((([]), ([])) ∷ (([]), ([])) ∷ (([]), ([])) ∷ (([]), ([])) ∷ (([]), ([])) ∷ []) ≡ Ended 6 (pos 5 ∷ pos 0 ∷ []) ∷ Ended 7 (pos 5 ∷ pos 0 ∷ []) ∷ Ended 3 (pos 5 ∷ pos 0 ∷ []) ∷ Ended 3 (pos 5 ∷ pos 0 ∷ []) ∷ Ended 3 (pos 5 ∷ pos 0 ∷ []) ∷ []
unfolding run int_wrap image_56
run_56 = refl

image_57 : Parts
image_57 = record {
  code = (3364093952 ∷ 1216485376 ∷ 1147339264 ∷ 3160473604 ∷ 2952806115 ∷ 3630178304 ∷ 4229955584 ∷ 3087073252 ∷ []);
  memory = (pos 3 ∷ pos 2147483647 ∷ negsuc 2147483647 ∷ negsuc 6 ∷ []);
  inputs = (0 ∷ 1 ∷ []);
  outputs = (1 ∷ 2 ∷ 3 ∷ []);
  slots = (0 ∷ []);
  aborts = [];
  pauses = record { at = 6; slot = 0; stack = ([]) } ∷ [];
  forks = [];
}

run_57 : seen image_57 (3 ∷ 3 ∷ 7 ∷ 9 ∷ 3 ∷ 7 ∷ 9 ∷ 3 ∷ 7 ∷ 6 ∷ 9 ∷ 9 ∷ 4 ∷ 4 ∷ 5 ∷ 7 ∷ 4 ∷ 7 ∷ 8 ∷ 1 ∷ 8 ∷ 8 ∷ []) 40 (loaded_unit image_57) (loaded_cells image_57) (((negsuc 681260189 ∷ pos 899178464 ∷ []), ([])) ∷ []) ≡ Stopped Late 0 ∷ []
unfolding run int_wrap image_57
run_57 = refl

image_58 : Parts
image_58 = record {
  code = (4229955584 ∷ 4232052736 ∷ 3162832904 ∷ 3160997876 ∷ 2952790016 ∷ 811794433 ∷ 2952790016 ∷ 811794433 ∷ 3162701840 ∷ 3160604672 ∷ 4249026560 ∷ 818479103 ∷ 4249354240 ∷ []);
  memory = (pos 1 ∷ negsuc 0 ∷ pos 1 ∷ negsuc 0 ∷ pos 0 ∷ pos 1 ∷ []);
  inputs = (1 ∷ 3 ∷ []);
  outputs = (0 ∷ 2 ∷ []);
  slots = (12 ∷ []);
  aborts = [];
  pauses = record { at = 0; slot = 0; stack = ([]) } ∷ [];
  forks = [];
}

run_58 : seen image_58 (1 ∷ 8 ∷ 6 ∷ 5 ∷ 6 ∷ 8 ∷ 7 ∷ 9 ∷ 2 ∷ 9 ∷ 4 ∷ 2 ∷ 7 ∷ 1 ∷ 2 ∷ 2 ∷ 5 ∷ 1 ∷ 1 ∷ 7 ∷ 4 ∷ 1 ∷ []) 300 (loaded_unit image_58) (loaded_cells image_58) (((pos 1 ∷ negsuc 0 ∷ []), ([])) ∷ []) ≡ Stopped WrongPlace 12 ∷ []
unfolding run int_wrap image_58
run_58 = refl

image_59 : Parts
image_59 = record {
  code = (4229955584 ∷ 4229955584 ∷ 3087073272 ∷ 2952790016 ∷ 811794433 ∷ 3160670216 ∷ 811859969 ∷ 2952790016 ∷ 811794433 ∷ 4249288704 ∷ 4242538497 ∷ 4244635649 ∷ 4246732800 ∷ 820445187 ∷ 3154706424 ∷ 3154640900 ∷ 4242538497 ∷ 4244635648 ∷ 3087073276 ∷ 2952790016 ∷ 4242538499 ∷ 4244635665 ∷ 3087073276 ∷ []);
  memory = (negsuc 0 ∷ pos 0 ∷ negsuc 0 ∷ negsuc 0 ∷ negsuc 0 ∷ negsuc 0 ∷ []);
  inputs = (4 ∷ 5 ∷ []);
  outputs = ([]);
  slots = (2 ∷ []);
  aborts = [];
  pauses = record { at = 0; slot = 0; stack = ([]) } ∷ record { at = 1; slot = 0; stack = ([]) } ∷ [];
  forks = [];
}

run_59 : seen image_59 (87 ∷ 133 ∷ 9 ∷ 195 ∷ 220 ∷ 221 ∷ 124 ∷ 136 ∷ 133 ∷ 107 ∷ 179 ∷ 63 ∷ 86 ∷ 162 ∷ 123 ∷ 49 ∷ 160 ∷ 65 ∷ 190 ∷ 22 ∷ 7 ∷ 14 ∷ []) 300 (loaded_unit image_59) (loaded_cells image_59) (((pos 0 ∷ pos 0 ∷ []), ([])) ∷ ((negsuc 8 ∷ pos 1 ∷ []), ([])) ∷ ((pos 0 ∷ negsuc 0 ∷ []), ([])) ∷ ((pos 1 ∷ negsuc 0 ∷ []), ([])) ∷ ((pos 0 ∷ negsuc 0 ∷ []), ([])) ∷ []) ≡ Ended 241 ([]) ∷ Ended 105 ([]) ∷ Ended 241 ([]) ∷ Ended 105 ([]) ∷ Ended 241 ([]) ∷ []
unfolding run int_wrap image_59
run_59 = refl

image_60 : Parts
image_60 = record {
  code = (1149309440 ∷ 1214451712 ∷ 335611904 ∷ 3623944192 ∷ 807501823 ∷ 3154182156 ∷ 2952829117 ∷ 2952836979 ∷ 1142956544 ∷ 1212227584 ∷ 4229955584 ∷ 3087073236 ∷ []);
  memory = (negsuc 6 ∷ pos 0 ∷ pos 5 ∷ pos 5 ∷ []);
  inputs = (0 ∷ 1 ∷ []);
  outputs = (1 ∷ 2 ∷ 3 ∷ []);
  slots = (0 ∷ []);
  aborts = [];
  pauses = record { at = 10; slot = 0; stack = ([]) } ∷ [];
  forks = [];
}

run_60 : seen image_60 (1 ∷ 1 ∷ 1 ∷ 2 ∷ 100 ∷ 2 ∷ 100 ∷ 1 ∷ 1 ∷ 1 ∷ 1 ∷ 1 ∷ 1 ∷ 1 ∷ 100 ∷ 2 ∷ 100 ∷ 100 ∷ 1 ∷ 2 ∷ 2 ∷ 100 ∷ []) 40 (loaded_unit image_60) (loaded_cells image_60) (((pos 0 ∷ pos 0 ∷ []), ([])) ∷ []) ≡ Stopped Late 0 ∷ []
unfolding run int_wrap image_60
run_60 = refl

image_61 : Parts
image_61 = record {
  code = (4242538501 ∷ 4244635659 ∷ 3904897036 ∷ 2764439555 ∷ 2952790016 ∷ 3162898452 ∷ 1086859264 ∷ 1153640960 ∷ 4173332488 ∷ 3087073248 ∷ 4246732800 ∷ 4240441344 ∷ 4238344192 ∷ 4240441344 ∷ 4238344204 ∷ 1155870720 ∷ 2952790016 ∷ 2695430135 ∷ 4240441344 ∷ 4242538498 ∷ 4244635691 ∷ 4242538497 ∷ 4244635690 ∷ 3898605584 ∷ 3160604740 ∷ 4242538499 ∷ 4244635683 ∷ 3900702728 ∷ 2760114177 ∷ 3160670228 ∷ 4238344206 ∷ 1155934720 ∷ 3898605584 ∷ 3087073252 ∷ 4246732800 ∷ 4242538498 ∷ 4244635688 ∷ 822411264 ∷ 2952855551 ∷ 3087073268 ∷ 3087073208 ∷ 4246732800 ∷ 3087073192 ∷ 4232052736 ∷ []);
  memory = (pos 1 ∷ pos 1 ∷ negsuc 0 ∷ pos 5 ∷ pos 1 ∷ []);
  inputs = (2 ∷ []);
  outputs = (3 ∷ []);
  slots = (19 ∷ []);
  aborts = [];
  pauses = [];
  forks = [];
}

run_61 : seen image_61 (100 ∷ 1 ∷ 1 ∷ 1 ∷ 1 ∷ 2 ∷ 100 ∷ 1 ∷ 100 ∷ 2 ∷ 1 ∷ 2 ∷ 1 ∷ 1 ∷ 2 ∷ 2 ∷ 1 ∷ 1 ∷ 2 ∷ 1 ∷ 100 ∷ 1 ∷ []) 3000 (loaded_unit image_61) (loaded_cells image_61) (((negsuc 0 ∷ []), (false ∷ false ∷ true ∷ false ∷ true ∷ false ∷ true ∷ false ∷ false ∷ true ∷ false ∷ true ∷ false ∷ true ∷ [])) ∷ []) ≡ Stopped Late 37 ∷ []
unfolding run int_wrap image_61
run_61 = refl

image_62 : Parts
image_62 = record {
  code = (4242538497 ∷ 3087073200 ∷ 3900702724 ∷ 2760114179 ∷ 3160670312 ∷ 4242538497 ∷ 4244635675 ∷ 3162832944 ∷ 3900702732 ∷ 3160670228 ∷ 4242538498 ∷ 4244635662 ∷ 3906994176 ∷ 3087073272 ∷ 812187647 ∷ 816185343 ∷ 3898605576 ∷ 2952790016 ∷ 3087007772 ∷ 3902799880 ∷ 2294493184 ∷ 4173332484 ∷ 2952855549 ∷ 2827419649 ∷ 3904897024 ∷ 2952855551 ∷ 4244635679 ∷ 4232052736 ∷ 4167041044 ∷ 3087073168 ∷ 4246732800 ∷ 4229955584 ∷ 1158038528 ∷ 4177526792 ∷ 3087073144 ∷ 4232052736 ∷ []);
  memory = (pos 1 ∷ pos 5 ∷ pos 5 ∷ negsuc 0 ∷ pos 0 ∷ pos 0 ∷ []);
  inputs = (0 ∷ []);
  outputs = ([]);
  slots = (0 ∷ []);
  aborts = [];
  pauses = record { at = 31; slot = 0; stack = ([]) } ∷ [];
  forks = [];
}

run_62 : seen image_62 (1 ∷ 100 ∷ 2 ∷ 1 ∷ 2 ∷ 1 ∷ 2 ∷ 1 ∷ 2 ∷ 1 ∷ 1 ∷ 100 ∷ 2 ∷ 1 ∷ 1 ∷ 1 ∷ 100 ∷ 2 ∷ 100 ∷ 1 ∷ 2 ∷ 2 ∷ []) 300 (loaded_unit image_62) (loaded_cells image_62) (((negsuc 0 ∷ []), ([])) ∷ []) ≡ Stopped OutOfCode 1 ∷ []
unfolding run int_wrap image_62
run_62 = refl

image_63 : Parts
image_63 = record {
  code = (2688710647 ∷ 341835777 ∷ 3156279304 ∷ 340000769 ∷ 1210189824 ∷ 1149239296 ∷ 2952844156 ∷ 1216616448 ∷ 809697281 ∷ 335683584 ∷ 1140859904 ∷ 2290096128 ∷ 2684485639 ∷ 4229955584 ∷ 3087073224 ∷ []);
  memory = (pos 0 ∷ negsuc 6 ∷ pos 2147483647 ∷ pos 0 ∷ []);
  inputs = (0 ∷ 1 ∷ []);
  outputs = (1 ∷ 2 ∷ 3 ∷ []);
  slots = (0 ∷ []);
  aborts = [];
  pauses = record { at = 13; slot = 0; stack = ([]) } ∷ [];
  forks = [];
}

run_63 : seen image_63 (1 ∷ 1 ∷ 1 ∷ 100 ∷ 100 ∷ 1 ∷ 1 ∷ 2 ∷ 1 ∷ 100 ∷ 2 ∷ 1 ∷ 2 ∷ 100 ∷ 1 ∷ 100 ∷ 1 ∷ 2 ∷ 1 ∷ 1 ∷ 2 ∷ 1 ∷ []) 3000 (loaded_unit image_63) (loaded_cells image_63) (((negsuc 1 ∷ negsuc 0 ∷ []), (false ∷ [])) ∷ []) ≡ Stopped WrongPlace 7 ∷ []
unfolding run int_wrap image_63
run_63 = refl

image_64 : Parts
image_64 = record {
  code = (1218910208 ∷ 1151547904 ∷ 4169138196 ∷ 4240441344 ∷ 3900702728 ∷ 4173332480 ∷ 4240441344 ∷ 3904897036 ∷ 2764439555 ∷ 3160801320 ∷ 3904897028 ∷ 4229955584 ∷ 3087073272 ∷ 4234149888 ∷ 4234149889 ∷ 4238344192 ∷ 4236247040 ∷ 4236247040 ∷ 3087073236 ∷ 4232052736 ∷ 3906994180 ∷ 4249288704 ∷ 3909091332 ∷ 2768764929 ∷ 3900702732 ∷ 2760114177 ∷ 3160670216 ∷ 3904897036 ∷ 4249354240 ∷ []);
  memory = (pos 0 ∷ pos 1 ∷ pos 0 ∷ pos 0 ∷ pos 0 ∷ pos 0 ∷ []);
  inputs = ([]);
  outputs = ([]);
  slots = (7 ∷ []);
  aborts = record { weak = false; cond = 23; handler = 18 } ∷ record { weak = true; cond = 22; handler = 17 } ∷ [];
  pauses = record { at = 11; slot = 0; stack = ([]) } ∷ [];
  forks = [];
}

run_64 : seen image_64 (131 ∷ 178 ∷ 96 ∷ 41 ∷ 64 ∷ 167 ∷ 8 ∷ 153 ∷ 179 ∷ 155 ∷ 245 ∷ 95 ∷ 223 ∷ 122 ∷ 170 ∷ 65 ∷ 209 ∷ 89 ∷ 191 ∷ 227 ∷ 240 ∷ 220 ∷ []) 3000 (loaded_unit image_64) (loaded_cells image_64) ((([]), (true ∷ [])) ∷ (([]), ([])) ∷ (([]), ([])) ∷ (([]), ([])) ∷ (([]), ([])) ∷ []) ≡ Ended 920 ([]) ∷ Ended 220 ([]) ∷ Ended 220 ([]) ∷ Ended 220 ([]) ∷ Ended 220 ([]) ∷ []
unfolding run int_wrap image_64
run_64 = refl

image_65 : Parts
image_65 = record {
  code = (3156738104 ∷ 4242538501 ∷ 4244635657 ∷ 3898605592 ∷ 3158507536 ∷ 4167041036 ∷ 2952855551 ∷ 3087073260 ∷ 4246732800 ∷ 2952790016 ∷ 3154575376 ∷ 2952790016 ∷ 2699493383 ∷ 3909091332 ∷ 4171235332 ∷ 4240441344 ∷ 3906994200 ∷ 346560513 ∷ 4240441344 ∷ 4173332484 ∷ 1151874048 ∷ 3909091352 ∷ 4240441344 ∷ 3909091352 ∷ 2952790018 ∷ 2760245254 ∷ 4232052736 ∷ []);
  memory = (pos 0 ∷ pos 0 ∷ pos 0 ∷ negsuc 0 ∷ pos 1 ∷ negsuc 0 ∷ pos 0 ∷ []);
  inputs = (0 ∷ 3 ∷ []);
  outputs = (5 ∷ 1 ∷ []);
  slots = (23 ∷ []);
  aborts = [];
  pauses = [];
  forks = [];
}

run_65 : seen image_65 (3 ∷ 5 ∷ 5 ∷ 4 ∷ 5 ∷ 7 ∷ 3 ∷ 7 ∷ 3 ∷ 9 ∷ 5 ∷ 2 ∷ 9 ∷ 8 ∷ 5 ∷ 4 ∷ 4 ∷ 4 ∷ 9 ∷ 7 ∷ 5 ∷ 5 ∷ []) 3000 (loaded_unit image_65) (loaded_cells image_65) (((pos 0 ∷ pos 123379637 ∷ []), ([])) ∷ ((negsuc 1178782600 ∷ pos 5 ∷ []), ([])) ∷ ((pos 1 ∷ negsuc 0 ∷ []), ([])) ∷ ((pos 2 ∷ pos 1 ∷ []), ([])) ∷ ((negsuc 0 ∷ negsuc 0 ∷ []), ([])) ∷ []) ≡ Ended 49 (negsuc 0 ∷ pos 0 ∷ []) ∷ Ended 25 (negsuc 0 ∷ pos 0 ∷ []) ∷ Ended 25 (negsuc 0 ∷ pos 0 ∷ []) ∷ Ended 25 (negsuc 0 ∷ pos 0 ∷ []) ∷ Ended 25 (negsuc 0 ∷ pos 0 ∷ []) ∷ []
unfolding run int_wrap image_65
run_65 = refl

image_66 : Parts
image_66 = record {
  code = (1147214336 ∷ 1145307648 ∷ 3160604672 ∷ 2692850581 ∷ 3357743104 ∷ 3154444268 ∷ 2818768903 ∷ 4229955584 ∷ 3087073248 ∷ []);
  memory = (pos 0 ∷ pos 0 ∷ pos 3 ∷ pos 5 ∷ []);
  inputs = (0 ∷ 1 ∷ []);
  outputs = (1 ∷ 2 ∷ 3 ∷ []);
  slots = (0 ∷ []);
  aborts = [];
  pauses = record { at = 7; slot = 0; stack = ([]) } ∷ [];
  forks = [];
}

run_66 : seen image_66 (251 ∷ 158 ∷ 53 ∷ 172 ∷ 82 ∷ 155 ∷ 124 ∷ 244 ∷ 79 ∷ 52 ∷ 75 ∷ 18 ∷ 52 ∷ 194 ∷ 236 ∷ 83 ∷ 249 ∷ 171 ∷ 225 ∷ 91 ∷ 204 ∷ 246 ∷ []) 3000 (loaded_unit image_66) (loaded_cells image_66) (((negsuc 6 ∷ negsuc 0 ∷ []), (true ∷ true ∷ true ∷ true ∷ true ∷ true ∷ true ∷ true ∷ true ∷ true ∷ true ∷ true ∷ true ∷ true ∷ true ∷ [])) ∷ []) ≡ Stopped Late 2 ∷ []
unfolding run int_wrap image_66
run_66 = refl

image_67 : Parts
image_67 = record {
  code = (3156475940 ∷ 3164995620 ∷ 822476803 ∷ 3904897044 ∷ 820379649 ∷ 3162898436 ∷ 4249354240 ∷ 3156803580 ∷ 3162701836 ∷ 815988739 ∷ 3165126660 ∷ 4249223168 ∷ 4229955584 ∷ 4229955584 ∷ 3087007772 ∷ 2952790016 ∷ 811794433 ∷ 4234149888 ∷ 2952790016 ∷ 811794433 ∷ 4229955584 ∷ 3087073248 ∷ []);
  memory = (pos 0 ∷ negsuc 0 ∷ pos 0 ∷ negsuc 0 ∷ negsuc 0 ∷ pos 1 ∷ []);
  inputs = ([]);
  outputs = (4 ∷ 1 ∷ []);
  slots = (15 ∷ []);
  aborts = record { weak = true; cond = 2; handler = 17 } ∷ [];
  pauses = record { at = 12; slot = 0; stack = (0 ∷ []) } ∷ record { at = 13; slot = 0; stack = (0 ∷ []) } ∷ record { at = 20; slot = 0; stack = (0 ∷ []) } ∷ [];
  forks = [];
}

run_67 : seen image_67 (1 ∷ 1 ∷ 1 ∷ 1 ∷ 1 ∷ 1 ∷ 1 ∷ 1 ∷ 1 ∷ 1 ∷ 1 ∷ 1 ∷ 1 ∷ 1 ∷ 1 ∷ 1 ∷ 1 ∷ 1 ∷ 1 ∷ 1 ∷ 1 ∷ 1 ∷ []) 40 (loaded_unit image_67) (loaded_cells image_67) ((([]), ([])) ∷ (([]), (true ∷ true ∷ [])) ∷ (([]), (true ∷ true ∷ [])) ∷ (([]), (true ∷ true ∷ [])) ∷ (([]), (true ∷ true ∷ [])) ∷ []) ≡ Ended 9 (negsuc 0 ∷ negsuc 0 ∷ []) ∷ Ended 14 (negsuc 0 ∷ negsuc 0 ∷ []) ∷ Ended 14 (negsuc 0 ∷ negsuc 0 ∷ []) ∷ Ended 14 (negsuc 0 ∷ negsuc 0 ∷ []) ∷ Ended 14 (negsuc 0 ∷ negsuc 0 ∷ []) ∷ []
unfolding run int_wrap image_67
run_67 = refl

image_68 : Parts
image_68 = record {
  code = (4229955584 ∷ 4234149890 ∷ 4236247040 ∷ 3087073268 ∷ 4171235348 ∷ 4242538497 ∷ 4244635656 ∷ 4246732800 ∷ 3160932356 ∷ 4232052736 ∷ 3154378764 ∷ 3158835448 ∷ 3160932568 ∷ 4167041028 ∷ 4234149892 ∷ 4229955584 ∷ 4229955584 ∷ 3087007856 ∷ 3904897028 ∷ 4232052736 ∷ 815988739 ∷ 4167041044 ∷ 4229955584 ∷ 3163094956 ∷ 2952790016 ∷ 811794433 ∷ 2952790016 ∷ 811794433 ∷ 4229955584 ∷ 3087007828 ∷ 4227858690 ∷ 1149582336 ∷ 2952790016 ∷ 4242538496 ∷ 4244635742 ∷ 822476803 ∷ 3898605576 ∷ 3164798992 ∷ 3087073264 ∷ 2952790017 ∷ 811794433 ∷ 4244635680 ∷ 4244635747 ∷ 3087073276 ∷ 4229955584 ∷ 2952790017 ∷ 811794433 ∷ 816054271 ∷ 4229955584 ∷ 3087007912 ∷ 822411267 ∷ 3906994176 ∷ 4249354240 ∷ 3165061152 ∷ 3156607004 ∷ 2952790016 ∷ 811794433 ∷ 811991039 ∷ 2952790016 ∷ 811794433 ∷ 3164995588 ∷ 4249026560 ∷ 3902799872 ∷ 822345727 ∷ 4229955584 ∷ 4236247040 ∷ 4229955584 ∷ 3087007796 ∷ 283652096 ∷ 4232052736 ∷ 816185345 ∷ 4236247040 ∷ 3087007776 ∷ 2952790016 ∷ 4242538497 ∷ 4244635734 ∷ 4246732800 ∷ 4229955584 ∷ 3160670048 ∷ 3154575092 ∷ 2952790016 ∷ 4242538500 ∷ 4244635734 ∷ 3087073276 ∷ 814219267 ∷ 4236247040 ∷ 4236247040 ∷ 3087007748 ∷ 816054275 ∷ 4234149889 ∷ 4234149892 ∷ 4229955584 ∷ 3087073192 ∷ 4229955584 ∷ 822607873 ∷ 4236247040 ∷ 3087007744 ∷ 4234149888 ∷ 816381951 ∷ 4229955584 ∷ 3087072888 ∷ []);
  memory = (pos 1 ∷ negsuc 0 ∷ pos 0 ∷ pos 1 ∷ pos 0 ∷ pos 0 ∷ []);
  inputs = (2 ∷ 5 ∷ []);
  outputs = (3 ∷ 1 ∷ []);
  slots = (96 ∷ 88 ∷ 8 ∷ []);
  aborts = record { weak = true; cond = 53; handler = 69 } ∷ record { weak = true; cond = 50; handler = 88 } ∷ record { weak = true; cond = 61; handler = 0 } ∷ record { weak = true; cond = 50; handler = 77 } ∷ record { weak = true; cond = 50; handler = 72 } ∷ [];
  pauses = record { at = 0; slot = 2; stack = ([]) } ∷ record { at = 15; slot = 1; stack = (1 ∷ 4 ∷ []) } ∷ record { at = 16; slot = 1; stack = (1 ∷ 4 ∷ []) } ∷ record { at = 22; slot = 2; stack = (2 ∷ []) } ∷ record { at = 28; slot = 2; stack = (2 ∷ []) } ∷ record { at = 44; slot = 1; stack = (1 ∷ 4 ∷ []) } ∷ record { at = 48; slot = 1; stack = (1 ∷ 4 ∷ []) } ∷ record { at = 64; slot = 1; stack = (1 ∷ 3 ∷ []) } ∷ record { at = 66; slot = 1; stack = (1 ∷ []) } ∷ record { at = 77; slot = 1; stack = (1 ∷ []) } ∷ record { at = 91; slot = 1; stack = (1 ∷ 4 ∷ []) } ∷ record { at = 93; slot = 0; stack = (0 ∷ []) } ∷ record { at = 99; slot = 0; stack = (0 ∷ []) } ∷ [];
  forks = record { at = 30; slot = 0; stack = (0 ∷ []) } ∷ [];
}

run_68 : seen image_68 (2 ∷ 100 ∷ 1 ∷ 100 ∷ 1 ∷ 2 ∷ 1 ∷ 2 ∷ 100 ∷ 100 ∷ 1 ∷ 1 ∷ 1 ∷ 1 ∷ 1 ∷ 1 ∷ 2 ∷ 1 ∷ 1 ∷ 1 ∷ 2 ∷ 100 ∷ []) 3000 (loaded_unit image_68) (loaded_cells image_68) (((pos 7 ∷ negsuc 732714994 ∷ []), ([])) ∷ []) ≡ Stopped Late 96 ∷ []
unfolding run int_wrap image_68
run_68 = refl

image_69 : Parts
image_69 = record {
  code = (2149588992 ∷ 3359905792 ∷ 2690940927 ∷ 1149508608 ∷ 2221080576 ∷ 809631743 ∷ 4229955584 ∷ 3087073252 ∷ []);
  memory = (negsuc 6 ∷ pos 5 ∷ pos 3 ∷ pos 3 ∷ []);
  inputs = (0 ∷ 1 ∷ []);
  outputs = (1 ∷ 2 ∷ 3 ∷ []);
  slots = (0 ∷ []);
  aborts = [];
  pauses = record { at = 6; slot = 0; stack = ([]) } ∷ [];
  forks = [];
}

run_69 : seen image_69 (2 ∷ 2 ∷ 7 ∷ 2 ∷ 5 ∷ 6 ∷ 1 ∷ 2 ∷ 2 ∷ 4 ∷ 1 ∷ 3 ∷ 4 ∷ 4 ∷ 5 ∷ 3 ∷ 8 ∷ 2 ∷ 6 ∷ 5 ∷ 9 ∷ 9 ∷ []) 3000 (loaded_unit image_69) (loaded_cells image_69) (((pos 0 ∷ pos 1 ∷ []), ([])) ∷ ((pos 1 ∷ negsuc 0 ∷ []), ([])) ∷ ((negsuc 2 ∷ negsuc 0 ∷ []), ([])) ∷ ((pos 139958711 ∷ pos 3 ∷ []), ([])) ∷ ((negsuc 0 ∷ pos 0 ∷ []), ([])) ∷ []) ≡ Ended 73 (pos 1 ∷ pos 3 ∷ pos 3 ∷ []) ∷ Ended 75 (negsuc 0 ∷ pos 3 ∷ pos 3 ∷ []) ∷ Ended 75 (negsuc 0 ∷ pos 3 ∷ pos 3 ∷ []) ∷ Ended 75 (pos 3 ∷ pos 3 ∷ pos 3 ∷ []) ∷ Ended 75 (pos 0 ∷ pos 3 ∷ pos 3 ∷ []) ∷ []
unfolding run int_wrap image_69
run_69 = refl

image_70 : Parts
image_70 = record {
  code = (2952790017 ∷ 811794433 ∷ 4236247040 ∷ 3087007808 ∷ 4229955584 ∷ 4234149888 ∷ 4169138196 ∷ 4236247040 ∷ 3087007780 ∷ 3165126680 ∷ 1153633280 ∷ 2952790016 ∷ 811794433 ∷ 4229955584 ∷ 4229955584 ∷ 3087073256 ∷ 4229955584 ∷ 2952790016 ∷ 811794433 ∷ 4234149889 ∷ 4229955584 ∷ 4229955584 ∷ 2952790016 ∷ 4242538496 ∷ 4244635668 ∷ 3087073276 ∷ 1153903616 ∷ 2952790016 ∷ 4242538497 ∷ 4244635668 ∷ 2952790016 ∷ 811794433 ∷ 4167041028 ∷ 4244635668 ∷ 3898605588 ∷ 3087073256 ∷ 3904897040 ∷ 4167041032 ∷ 3160735764 ∷ 818282495 ∷ 3158835208 ∷ 3165061132 ∷ 3087007752 ∷ 3156606980 ∷ 4249026560 ∷ 2952790016 ∷ 811794433 ∷ 2952790017 ∷ 811794433 ∷ 285679616 ∷ 4242538499 ∷ 4244635662 ∷ 4167041024 ∷ 4244635662 ∷ 3087007776 ∷ 4242538498 ∷ 4244635712 ∷ 4244635713 ∷ 3165061124 ∷ 4246732800 ∷ 4244635662 ∷ 4244635661 ∷ 3087073236 ∷ 3156738060 ∷ 3154640908 ∷ 3909091332 ∷ 3909091332 ∷ 3087073224 ∷ []);
  memory = (negsuc 0 ∷ pos 1 ∷ pos 0 ∷ pos 1 ∷ negsuc 0 ∷ pos 0 ∷ []);
  inputs = ([]);
  outputs = (0 ∷ 1 ∷ []);
  slots = (16 ∷ []);
  aborts = record { weak = true; cond = 44; handler = 4 } ∷ record { weak = true; cond = 43; handler = 3 } ∷ [];
  pauses = record { at = 4; slot = 0; stack = ([]) } ∷ record { at = 13; slot = 0; stack = (0 ∷ []) } ∷ record { at = 14; slot = 0; stack = (0 ∷ []) } ∷ record { at = 16; slot = 0; stack = ([]) } ∷ record { at = 20; slot = 0; stack = (1 ∷ []) } ∷ record { at = 21; slot = 0; stack = (1 ∷ []) } ∷ [];
  forks = [];
}

run_70 : seen image_70 (1 ∷ 1 ∷ 1 ∷ 1 ∷ 1 ∷ 1 ∷ 1 ∷ 1 ∷ 1 ∷ 1 ∷ 1 ∷ 1 ∷ 1 ∷ 1 ∷ 1 ∷ 1 ∷ 1 ∷ 1 ∷ 1 ∷ 1 ∷ 1 ∷ 1 ∷ []) 40 (loaded_unit image_70) (loaded_cells image_70) ((([]), ([])) ∷ (([]), ([])) ∷ (([]), (false ∷ true ∷ [])) ∷ (([]), (false ∷ true ∷ [])) ∷ (([]), (false ∷ true ∷ [])) ∷ []) ≡ Ended 4 (negsuc 0 ∷ pos 1 ∷ []) ∷ Ended 7 (negsuc 0 ∷ pos 1 ∷ []) ∷ Ended 9 (negsuc 0 ∷ pos 1 ∷ []) ∷ Ended 9 (negsuc 0 ∷ pos 1 ∷ []) ∷ Ended 9 (negsuc 0 ∷ pos 1 ∷ []) ∷ []
unfolding run int_wrap image_70
run_70 = refl

image_71 : Parts
image_71 = record {
  code = (3900702720 ∷ 1216557056 ∷ 3160867032 ∷ 4249157632 ∷ 3156541468 ∷ 4227858945 ∷ 4242538497 ∷ 4244635657 ∷ 3087073276 ∷ 4227858689 ∷ 4229955584 ∷ 3165192188 ∷ 4234149889 ∷ 814022655 ∷ 4236247040 ∷ 3087073260 ∷ 3156410420 ∷ 4242538499 ∷ 4244635677 ∷ 3087073276 ∷ 3160801300 ∷ 4234149890 ∷ 3160866820 ∷ 4236247040 ∷ 4229955584 ∷ 3087073276 ∷ 4229955584 ∷ 4234149888 ∷ 818216959 ∷ 4229955584 ∷ 4236247040 ∷ 3087073260 ∷ 4229955584 ∷ 811991041 ∷ 2952790016 ∷ 811794433 ∷ 4232052736 ∷ 4242538500 ∷ 4244635725 ∷ 4244635691 ∷ 3087073276 ∷ 4244635726 ∷ 4246732800 ∷ 4229955584 ∷ 3158835208 ∷ 4229955584 ∷ 4229955584 ∷ 4236247040 ∷ 3087007856 ∷ 3160735832 ∷ 4229955584 ∷ 3087007744 ∷ 820248575 ∷ 3160604676 ∷ 2952790016 ∷ 811794433 ∷ 4249223168 ∷ 2952790016 ∷ 4242538498 ∷ 4244635671 ∷ 4242538497 ∷ 4244635711 ∷ 4246732800 ∷ 820510721 ∷ 4177526796 ∷ 3902799884 ∷ 3087007756 ∷ 4244635671 ∷ 4244635671 ∷ 3087073272 ∷ 3902799892 ∷ 4229955584 ∷ 3087073048 ∷ 4229955584 ∷ 2952790016 ∷ 811794433 ∷ 4234149891 ∷ 4229955584 ∷ 3087073148 ∷ []);
  memory = (negsuc 0 ∷ pos 1 ∷ negsuc 0 ∷ pos 1 ∷ pos 0 ∷ pos 0 ∷ []);
  inputs = (1 ∷ []);
  outputs = (3 ∷ 0 ∷ []);
  slots = (15 ∷ 73 ∷ 26 ∷ []);
  aborts = record { weak = true; cond = 56; handler = 26 } ∷ record { weak = false; cond = 2; handler = 12 } ∷ record { weak = false; cond = 0; handler = 28 } ∷ record { weak = false; cond = 54; handler = 36 } ∷ [];
  pauses = record { at = 10; slot = 0; stack = ([]) } ∷ record { at = 24; slot = 2; stack = (0 ∷ []) } ∷ record { at = 26; slot = 2; stack = ([]) } ∷ record { at = 29; slot = 2; stack = (0 ∷ []) } ∷ record { at = 32; slot = 1; stack = ([]) } ∷ record { at = 43; slot = 1; stack = (3 ∷ []) } ∷ record { at = 45; slot = 1; stack = (3 ∷ []) } ∷ record { at = 46; slot = 1; stack = (3 ∷ []) } ∷ record { at = 50; slot = 0; stack = (1 ∷ []) } ∷ record { at = 71; slot = 0; stack = (1 ∷ []) } ∷ record { at = 73; slot = 1; stack = ([]) } ∷ record { at = 77; slot = 1; stack = (3 ∷ []) } ∷ [];
  forks = record { at = 5; slot = 0; stack = ([]) } ∷ record { at = 9; slot = 0; stack = ([]) } ∷ [];
}

run_71 : seen image_71 (1 ∷ 1 ∷ 1 ∷ 1 ∷ 2 ∷ 1 ∷ 2 ∷ 100 ∷ 100 ∷ 2 ∷ 100 ∷ 1 ∷ 1 ∷ 1 ∷ 1 ∷ 2 ∷ 2 ∷ 2 ∷ 2 ∷ 2 ∷ 1 ∷ 2 ∷ []) 3000 (loaded_unit image_71) (loaded_cells image_71) (((pos 1 ∷ []), ([])) ∷ ((pos 1 ∷ []), (true ∷ [])) ∷ ((pos 1 ∷ []), (true ∷ [])) ∷ ((pos 0 ∷ []), (true ∷ [])) ∷ ((pos 2 ∷ []), (true ∷ [])) ∷ []) ≡ Ended 109 (pos 1 ∷ negsuc 0 ∷ []) ∷ Ended 109 (pos 1 ∷ negsuc 0 ∷ []) ∷ Ended 109 (pos 1 ∷ negsuc 0 ∷ []) ∷ Ended 109 (pos 1 ∷ negsuc 0 ∷ []) ∷ Ended 109 (pos 1 ∷ negsuc 0 ∷ []) ∷ []
unfolding run int_wrap image_71
run_71 = refl

image_72 : Parts
image_72 = record {
  code = (3164864520 ∷ 3364098048 ∷ 1149309440 ∷ 1214316544 ∷ 3158376460 ∷ 3164602376 ∷ 339746817 ∷ 4229955584 ∷ 3087073248 ∷ []);
  memory = (negsuc 6 ∷ pos 3 ∷ pos 0 ∷ pos 2147483647 ∷ []);
  inputs = (0 ∷ 1 ∷ []);
  outputs = (1 ∷ 2 ∷ 3 ∷ []);
  slots = (0 ∷ []);
  aborts = [];
  pauses = record { at = 7; slot = 0; stack = ([]) } ∷ [];
  forks = [];
}

run_72 : seen image_72 (2 ∷ 2 ∷ 2 ∷ 1 ∷ 2 ∷ 100 ∷ 1 ∷ 2 ∷ 100 ∷ 1 ∷ 2 ∷ 100 ∷ 2 ∷ 1 ∷ 100 ∷ 1 ∷ 1 ∷ 1 ∷ 2 ∷ 100 ∷ 1 ∷ 100 ∷ []) 40 (loaded_unit image_72) (loaded_cells image_72) (((negsuc 4 ∷ pos 1 ∷ []), ([])) ∷ []) ≡ Stopped Late 0 ∷ []
unfolding run int_wrap image_72
run_72 = refl

image_73 : Parts
image_73 = record {
  code = (4169138180 ∷ 4232052736 ∷ 3158638624 ∷ 2952790016 ∷ 3162767376 ∷ 3898605568 ∷ 4169138188 ∷ 3087007752 ∷ 822542336 ∷ 3087007776 ∷ 3904897024 ∷ 3160801296 ∷ 1151737856 ∷ 811859969 ∷ 3087007756 ∷ 816185344 ∷ 3898605568 ∷ 1157970432 ∷ 4240441344 ∷ 812122112 ∷ 2290292736 ∷ 4169138188 ∷ 4240441344 ∷ []);
  memory = (pos 0 ∷ negsuc 0 ∷ pos 0 ∷ pos 5 ∷ pos 0 ∷ []);
  inputs = ([]);
  outputs = ([]);
  slots = (0 ∷ []);
  aborts = [];
  pauses = [];
  forks = [];
}

run_73 : seen image_73 (211 ∷ 193 ∷ 19 ∷ 29 ∷ 157 ∷ 106 ∷ 66 ∷ 145 ∷ 97 ∷ 70 ∷ 51 ∷ 77 ∷ 197 ∷ 122 ∷ 89 ∷ 35 ∷ 113 ∷ 229 ∷ 105 ∷ 121 ∷ 100 ∷ 44 ∷ []) 3000 (loaded_unit image_73) (loaded_cells image_73) ((([]), ([])) ∷ (([]), ([])) ∷ (([]), ([])) ∷ (([]), ([])) ∷ (([]), ([])) ∷ []) ≡ Ended 307 ([]) ∷ Ended 44 ([]) ∷ Ended 44 ([]) ∷ Ended 44 ([]) ∷ Ended 44 ([]) ∷ []
unfolding run int_wrap image_73
run_73 = refl

image_74 : Parts
image_74 = record {
  code = (4229955584 ∷ 4171235332 ∷ 4229955584 ∷ 3087073276 ∷ 4227858689 ∷ 3165061160 ∷ 4242538498 ∷ 4244635659 ∷ 4244635659 ∷ 3087073276 ∷ 4246732800 ∷ 4232052736 ∷ 4236247040 ∷ 3900702728 ∷ 3160866828 ∷ 2952790016 ∷ 811794433 ∷ 3087073256 ∷ 2952790017 ∷ 811794433 ∷ 4242538500 ∷ 4244635674 ∷ 820248579 ∷ 2952790016 ∷ 811794433 ∷ 4246732800 ∷ 3154378792 ∷ 3087007752 ∷ 4229955584 ∷ 4234149888 ∷ 813891587 ∷ 4242538498 ∷ 4244635648 ∷ 816381951 ∷ 4246732800 ∷ 4236247040 ∷ 3087073248 ∷ 4229955584 ∷ 4229955584 ∷ 4229955584 ∷ 3087073276 ∷ 2952790017 ∷ 811794433 ∷ 2952790016 ∷ 811794433 ∷ 816185345 ∷ 4249354240 ∷ 3162767364 ∷ 4167041036 ∷ 4177526804 ∷ 3087073264 ∷ 4229955584 ∷ 4229955584 ∷ 4236247040 ∷ 3087007760 ∷ 4171235344 ∷ 4227858945 ∷ 4232052736 ∷ 4234149890 ∷ 4229955584 ∷ 3087073244 ∷ []);
  memory = (negsuc 0 ∷ pos 1 ∷ pos 1 ∷ negsuc 0 ∷ pos 1 ∷ pos 0 ∷ []);
  inputs = (2 ∷ []);
  outputs = ([]);
  slots = (11 ∷ 54 ∷ 28 ∷ []);
  aborts = record { weak = true; cond = 49; handler = 18 } ∷ record { weak = false; cond = 50; handler = 4 } ∷ record { weak = false; cond = 48; handler = 56 } ∷ record { weak = false; cond = 49; handler = 5 } ∷ [];
  pauses = record { at = 0; slot = 2; stack = (0 ∷ []) } ∷ record { at = 2; slot = 2; stack = (0 ∷ []) } ∷ record { at = 28; slot = 2; stack = ([]) } ∷ record { at = 37; slot = 0; stack = (1 ∷ []) } ∷ record { at = 38; slot = 0; stack = (1 ∷ []) } ∷ record { at = 39; slot = 0; stack = (1 ∷ []) } ∷ record { at = 51; slot = 1; stack = (2 ∷ []) } ∷ record { at = 52; slot = 1; stack = (2 ∷ []) } ∷ record { at = 59; slot = 1; stack = (2 ∷ []) } ∷ [];
  forks = record { at = 4; slot = 0; stack = ([]) } ∷ record { at = 56; slot = 1; stack = ([]) } ∷ [];
}

run_74 : seen image_74 (1 ∷ 1 ∷ 1 ∷ 1 ∷ 1 ∷ 1 ∷ 1 ∷ 1 ∷ 1 ∷ 1 ∷ 1 ∷ 1 ∷ 1 ∷ 1 ∷ 1 ∷ 1 ∷ 1 ∷ 1 ∷ 1 ∷ 1 ∷ 1 ∷ 1 ∷ []) 40 (loaded_unit image_74) (loaded_cells image_74) (((pos 1 ∷ []), ([])) ∷ ((pos 2 ∷ []), ([])) ∷ ((pos 7 ∷ []), ([])) ∷ ((negsuc 801644750 ∷ []), ([])) ∷ ((pos 1 ∷ []), ([])) ∷ []) ≡ Ended 3 ([]) ∷ Ended 2 ([]) ∷ Ended 2 ([]) ∷ Ended 2 ([]) ∷ Ended 2 ([]) ∷ []
unfolding run int_wrap image_74
run_74 = refl

image_75 : Parts
image_75 = record {
  code = (4167041036 ∷ 344133632 ∷ 2151682048 ∷ 1147281408 ∷ 3156410368 ∷ 805530867 ∷ 1075906560 ∷ 1147406848 ∷ 2684485633 ∷ 339871744 ∷ 335740928 ∷ 3164798952 ∷ 2818768903 ∷ 4229955584 ∷ 3087073224 ∷ []);
  memory = (negsuc 2147483647 ∷ pos 3 ∷ pos 5 ∷ pos 5 ∷ []);
  inputs = (0 ∷ 1 ∷ []);
  outputs = (1 ∷ 2 ∷ 3 ∷ []);
  slots = (0 ∷ []);
  aborts = [];
  pauses = record { at = 13; slot = 0; stack = ([]) } ∷ [];
  forks = [];
}

run_75 : seen image_75 (162 ∷ 179 ∷ 181 ∷ 2 ∷ 204 ∷ 7 ∷ 244 ∷ 78 ∷ 239 ∷ 83 ∷ 114 ∷ 76 ∷ 5 ∷ 135 ∷ 41 ∷ 199 ∷ 226 ∷ 235 ∷ 250 ∷ 142 ∷ 141 ∷ 113 ∷ []) 40 (loaded_unit image_75) (loaded_cells image_75) (((negsuc 0 ∷ negsuc 0 ∷ []), ([])) ∷ []) ≡ Stopped Late 0 ∷ []
unfolding run int_wrap image_75
run_75 = refl

image_76 : Parts
image_76 = record {
  code = (4234149888 ∷ 4234149889 ∷ 4242538497 ∷ 3087007756 ∷ 4175429644 ∷ 4244635675 ∷ 3154640904 ∷ 3154444312 ∷ 3087073268 ∷ 4242538499 ∷ 4244635661 ∷ 4246732800 ∷ 4244635674 ∷ 818413567 ∷ 4244635677 ∷ 4244635676 ∷ 3087073272 ∷ 3158573068 ∷ 3158638824 ∷ 4175429640 ∷ 4232052736 ∷ 3160735788 ∷ 4236247040 ∷ 3087073268 ∷ 4234149888 ∷ 4234149889 ∷ 820183043 ∷ 4229955584 ∷ 4229955584 ∷ 4229955584 ∷ 4236247040 ∷ 3087073256 ∷ 4229955584 ∷ 3156541448 ∷ 3909091348 ∷ 4234149889 ∷ 4242538499 ∷ 4244635717 ∷ 3162963980 ∷ 3087073272 ∷ 3160866828 ∷ 3909091348 ∷ 3160801288 ∷ 4244635717 ∷ 3087073252 ∷ 4229955584 ∷ 4229955584 ∷ 4232052736 ∷ 4229955584 ∷ 4232052736 ∷ 4242538500 ∷ 4244635693 ∷ 3158835204 ∷ 4177526800 ∷ 2952790017 ∷ 811794433 ∷ 3087073260 ∷ 2952790017 ∷ 811794433 ∷ 822411267 ∷ 816185343 ∷ 3087007816 ∷ 3163029520 ∷ 4229955584 ∷ 3087007752 ∷ 3165061124 ∷ 4229955584 ∷ 4229955584 ∷ 3087073260 ∷ 4236247040 ∷ 3164798992 ∷ 3898605580 ∷ 4229955584 ∷ 3160604680 ∷ 4169138192 ∷ 4236247040 ∷ 3087072976 ∷ 822345731 ∷ 3900702720 ∷ 4249288704 ∷ 4227858690 ∷ 4232052736 ∷ []);
  memory = (pos 0 ∷ negsuc 0 ∷ pos 1 ∷ pos 1 ∷ negsuc 0 ∷ pos 0 ∷ []);
  inputs = ([]);
  outputs = ([]);
  slots = (81 ∷ 76 ∷ 49 ∷ 65 ∷ 46 ∷ []);
  aborts = record { weak = false; cond = 79; handler = 24 } ∷ record { weak = true; cond = 59; handler = 32 } ∷ [];
  pauses = record { at = 27; slot = 1; stack = (0 ∷ 1 ∷ []) } ∷ record { at = 28; slot = 1; stack = (0 ∷ 1 ∷ []) } ∷ record { at = 29; slot = 1; stack = (0 ∷ 1 ∷ []) } ∷ record { at = 32; slot = 1; stack = (0 ∷ []) } ∷ record { at = 45; slot = 4; stack = ([]) } ∷ record { at = 46; slot = 4; stack = ([]) } ∷ record { at = 48; slot = 2; stack = ([]) } ∷ record { at = 63; slot = 3; stack = ([]) } ∷ record { at = 66; slot = 3; stack = ([]) } ∷ record { at = 67; slot = 3; stack = ([]) } ∷ record { at = 72; slot = 1; stack = (0 ∷ []) } ∷ [];
  forks = record { at = 80; slot = 0; stack = ([]) } ∷ [];
}

run_76 : seen image_76 (1 ∷ 1 ∷ 1 ∷ 1 ∷ 1 ∷ 1 ∷ 1 ∷ 1 ∷ 1 ∷ 1 ∷ 1 ∷ 1 ∷ 1 ∷ 1 ∷ 1 ∷ 1 ∷ 1 ∷ 1 ∷ 1 ∷ 1 ∷ 1 ∷ 1 ∷ []) 3000 (loaded_unit image_76) (loaded_cells image_76) ((([]), ([])) ∷ (([]), ([])) ∷ (([]), ([])) ∷ (([]), ([])) ∷ (([]), ([])) ∷ []) ≡ Ended 2 ([]) ∷ Ended 1 ([]) ∷ Ended 1 ([]) ∷ Ended 1 ([]) ∷ Ended 1 ([]) ∷ []
unfolding run int_wrap image_76
run_76 = refl

image_77 : Parts
image_77 = record {
  code = (818348033 ∷ 1158160384 ∷ 1080504320 ∷ 4229955584 ∷ 3087073264 ∷ 4232052736 ∷ 3898605576 ∷ 3162701868 ∷ 3906994180 ∷ 4175429636 ∷ 3904897024 ∷ 2952790016 ∷ 3154509840 ∷ 285552640 ∷ 4175429644 ∷ 2298888192 ∷ 2952790016 ∷ 3087007780 ∷ 3898605568 ∷ 3158507544 ∷ 3906994188 ∷ 2952855550 ∷ 812122117 ∷ 2952790016 ∷ 3087007752 ∷ 3904897028 ∷ 4169138180 ∷ 4240441344 ∷ []);
  memory = (negsuc 0 ∷ pos 5 ∷ negsuc 0 ∷ negsuc 0 ∷ []);
  inputs = ([]);
  outputs = (3 ∷ 2 ∷ []);
  slots = (0 ∷ []);
  aborts = [];
  pauses = record { at = 3; slot = 0; stack = ([]) } ∷ [];
  forks = [];
}

run_77 : seen image_77 (126 ∷ 130 ∷ 69 ∷ 154 ∷ 215 ∷ 227 ∷ 27 ∷ 121 ∷ 160 ∷ 107 ∷ 76 ∷ 139 ∷ 71 ∷ 74 ∷ 117 ∷ 224 ∷ 49 ∷ 5 ∷ 152 ∷ 125 ∷ 19 ∷ 10 ∷ []) 3000 (loaded_unit image_77) (loaded_cells image_77) ((([]), ([])) ∷ (([]), ([])) ∷ (([]), ([])) ∷ (([]), ([])) ∷ (([]), ([])) ∷ []) ≡ Ended 494 (negsuc 0 ∷ negsuc 0 ∷ []) ∷ Ended 615 (negsuc 0 ∷ negsuc 0 ∷ []) ∷ Ended 615 (negsuc 0 ∷ negsuc 0 ∷ []) ∷ Ended 615 (negsuc 0 ∷ negsuc 0 ∷ []) ∷ Ended 615 (negsuc 0 ∷ negsuc 0 ∷ []) ∷ []
unfolding run int_wrap image_77
run_77 = refl

image_78 : Parts
image_78 = record {
  code = (2151815168 ∷ 337840128 ∷ 3158507536 ∷ 3892314116 ∷ 3160473604 ∷ 809762815 ∷ 3162701820 ∷ 337643520 ∷ 2221017088 ∷ 4229955584 ∷ 3087073240 ∷ []);
  memory = (negsuc 2147483647 ∷ pos 3 ∷ negsuc 2147483647 ∷ negsuc 6 ∷ []);
  inputs = (0 ∷ 1 ∷ []);
  outputs = (1 ∷ 2 ∷ 3 ∷ []);
  slots = (0 ∷ []);
  aborts = [];
  pauses = record { at = 9; slot = 0; stack = ([]) } ∷ [];
  forks = [];
}

run_78 : seen image_78 (9 ∷ 7 ∷ 2 ∷ 9 ∷ 1 ∷ 2 ∷ 8 ∷ 6 ∷ 4 ∷ 7 ∷ 2 ∷ 7 ∷ 7 ∷ 4 ∷ 3 ∷ 1 ∷ 6 ∷ 6 ∷ 9 ∷ 9 ∷ 5 ∷ 2 ∷ []) 40 (loaded_unit image_78) (loaded_cells image_78) (((pos 0 ∷ negsuc 8 ∷ []), (false ∷ [])) ∷ []) ≡ Stopped Late 4 ∷ []
unfolding run int_wrap image_78
run_78 = refl

image_79 : Parts
image_79 = record {
  code = (3909091336 ∷ 2952790016 ∷ 3156738060 ∷ 3087007804 ∷ 3087007760 ∷ 4234149888 ∷ 4227858690 ∷ 4236247040 ∷ 815988736 ∷ 4177526784 ∷ 822607873 ∷ 4229955584 ∷ 3087073264 ∷ 3087073228 ∷ 4232052736 ∷ 4249026560 ∷ 4229955584 ∷ 3898605568 ∷ 4173332492 ∷ 4169138192 ∷ 4232052736 ∷ 3909091332 ∷ 3163029520 ∷ 3906994192 ∷ 1149714944 ∷ 4229955584 ∷ 4232052736 ∷ []);
  memory = (pos 5 ∷ pos 0 ∷ pos 0 ∷ pos 1 ∷ pos 1 ∷ []);
  inputs = (2 ∷ []);
  outputs = (4 ∷ []);
  slots = (0 ∷ 16 ∷ 21 ∷ []);
  aborts = record { weak = false; cond = 15; handler = 8 } ∷ [];
  pauses = record { at = 3; slot = 0; stack = ([]) } ∷ record { at = 11; slot = 0; stack = ([]) } ∷ record { at = 16; slot = 1; stack = ([]) } ∷ record { at = 25; slot = 2; stack = ([]) } ∷ [];
  forks = record { at = 6; slot = 0; stack = (0 ∷ []) } ∷ [];
}

run_79 : seen image_79 (1 ∷ 200 ∷ 30 ∷ 255 ∷ 191 ∷ 2 ∷ 180 ∷ 101 ∷ 174 ∷ 182 ∷ 171 ∷ 80 ∷ 183 ∷ 230 ∷ 178 ∷ 92 ∷ 83 ∷ 97 ∷ 209 ∷ 138 ∷ 71 ∷ 208 ∷ []) 300 (loaded_unit image_79) (loaded_cells image_79) (((pos 1 ∷ []), ([])) ∷ []) ≡ Stopped Late 0 ∷ []
unfolding run int_wrap image_79
run_79 = refl

image_80 : Parts
image_80 = record {
  code = (279330816 ∷ 4229955584 ∷ 3087073272 ∷ 4232052736 ∷ 820314113 ∷ 814022658 ∷ 4240441344 ∷ 4242538497 ∷ 4244635670 ∷ 4242538497 ∷ 4244635669 ∷ 3906994176 ∷ 2766602241 ∷ 2952790016 ∷ 3165061144 ∷ 2952855551 ∷ 2825388023 ∷ 811991039 ∷ 818216959 ∷ 3087073244 ∷ 4246732800 ∷ 3087073228 ∷ 4238344196 ∷ 1147416576 ∷ 4240441344 ∷ 4242538498 ∷ 4244635686 ∷ 3906994196 ∷ 2952790016 ∷ 3160866848 ∷ 3162767380 ∷ 3904897024 ∷ 2158309376 ∷ 2952790016 ∷ 3087007752 ∷ 1151612928 ∷ 3087073240 ∷ 4246732800 ∷ 4240441344 ∷ []);
  memory = (pos 0 ∷ pos 0 ∷ pos 0 ∷ pos 0 ∷ pos 5 ∷ pos 1 ∷ []);
  inputs = ([]);
  outputs = ([]);
  slots = (0 ∷ []);
  aborts = [];
  pauses = record { at = 1; slot = 0; stack = ([]) } ∷ [];
  forks = [];
}

run_80 : seen image_80 (1 ∷ 1 ∷ 1 ∷ 1 ∷ 1 ∷ 1 ∷ 1 ∷ 1 ∷ 1 ∷ 1 ∷ 1 ∷ 1 ∷ 1 ∷ 1 ∷ 1 ∷ 1 ∷ 1 ∷ 1 ∷ 1 ∷ 1 ∷ 1 ∷ 1 ∷ []) 3000 (loaded_unit image_80) (loaded_cells image_80) ((([]), ([])) ∷ (([]), ([])) ∷ (([]), ([])) ∷ (([]), ([])) ∷ (([]), ([])) ∷ []) ≡ Ended 3 ([]) ∷ Ended 4 ([]) ∷ Ended 4 ([]) ∷ Ended 4 ([]) ∷ Ended 4 ([]) ∷ []
unfolding run int_wrap image_80
run_80 = refl

image_81 : Parts
image_81 = record {
  code = (1149508608 ∷ 2751561728 ∷ 3156541432 ∷ 1145179136 ∷ 1143210496 ∷ 1082269696 ∷ 3894411280 ∷ 1143147520 ∷ 3154378732 ∷ 3158573020 ∷ 3898605576 ∷ 1145184768 ∷ 3355508736 ∷ 4229955584 ∷ 3087073224 ∷ []);
  memory = (pos 2147483647 ∷ pos 3 ∷ negsuc 6 ∷ negsuc 6 ∷ []);
  inputs = (0 ∷ 1 ∷ []);
  outputs = (1 ∷ 2 ∷ 3 ∷ []);
  slots = (0 ∷ []);
  aborts = [];
  pauses = record { at = 13; slot = 0; stack = ([]) } ∷ [];
  forks = [];
}

run_81 : seen image_81 (4 ∷ 8 ∷ 2 ∷ 4 ∷ 4 ∷ 2 ∷ 3 ∷ 5 ∷ 7 ∷ 1 ∷ 1 ∷ 7 ∷ 9 ∷ 3 ∷ 3 ∷ 2 ∷ 7 ∷ 7 ∷ 4 ∷ 1 ∷ 6 ∷ 1 ∷ []) 300 (loaded_unit image_81) (loaded_cells image_81) (((pos 2 ∷ pos 0 ∷ []), (false ∷ [])) ∷ []) ≡ Stopped BadAddress 6 ∷ []
unfolding run int_wrap image_81
run_81 = refl

image_82 : Parts
image_82 = record {
  code = (4229955584 ∷ 4229955584 ∷ 3087073276 ∷ 4238344198 ∷ 3087073268 ∷ 4232052736 ∷ 4242538497 ∷ 4244635688 ∷ 3160604796 ∷ 4242538497 ∷ 4244635666 ∷ 3158638616 ∷ 4177526796 ∷ 3898605580 ∷ 3906994184 ∷ 1158033920 ∷ 3087073256 ∷ 4246732800 ∷ 4242538498 ∷ 4244635671 ∷ 818216961 ∷ 2952855551 ∷ 3087073268 ∷ 4242538497 ∷ 4244635686 ∷ 3900702732 ∷ 2952790016 ∷ 4242538498 ∷ 3902799876 ∷ 4173332492 ∷ 2952855549 ∷ 2758017030 ∷ 4177526792 ∷ 2952790016 ∷ 2764505086 ∷ 2952855551 ∷ 3087073232 ∷ 4246732800 ∷ 3087073156 ∷ 4246732800 ∷ 4240441344 ∷ []);
  memory = (pos 0 ∷ pos 0 ∷ pos 1 ∷ pos 0 ∷ pos 1 ∷ []);
  inputs = (3 ∷ 0 ∷ []);
  outputs = (4 ∷ 2 ∷ []);
  slots = (0 ∷ []);
  aborts = [];
  pauses = record { at = 0; slot = 0; stack = ([]) } ∷ record { at = 1; slot = 0; stack = ([]) } ∷ [];
  forks = [];
}

run_82 : seen image_82 (11 ∷ 7 ∷ 28 ∷ 233 ∷ 54 ∷ 115 ∷ 227 ∷ 225 ∷ 39 ∷ 3 ∷ 36 ∷ 78 ∷ 189 ∷ 21 ∷ 228 ∷ 213 ∷ 250 ∷ 157 ∷ 230 ∷ 236 ∷ 237 ∷ 13 ∷ []) 300 (loaded_unit image_82) (loaded_cells image_82) (((pos 0 ∷ pos 1 ∷ []), ([])) ∷ ((pos 0 ∷ negsuc 0 ∷ []), ([])) ∷ ((pos 1 ∷ negsuc 0 ∷ []), ([])) ∷ []) ≡ Ended 143 (pos 1 ∷ pos 1 ∷ []) ∷ Ended 143 (pos 1 ∷ pos 1 ∷ []) ∷ Stopped Late 1 ∷ []
unfolding run int_wrap image_82
run_82 = refl

image_83 : Parts
image_83 = record {
  code = (811925505 ∷ 4229955584 ∷ 2952790016 ∷ 4242538499 ∷ 4244635674 ∷ 4244635674 ∷ 4244635649 ∷ 4242538497 ∷ 4244635660 ∷ 3087073276 ∷ 4246732800 ∷ 3087073260 ∷ 4242538497 ∷ 4244635652 ∷ 4244635652 ∷ 820314113 ∷ 3087073272 ∷ 3160801392 ∷ 4249354240 ∷ 818085891 ∷ 4232052736 ∷ 4242538497 ∷ 4244635674 ∷ 3087073276 ∷ 4244635674 ∷ 4246732800 ∷ 4229955584 ∷ 3087073172 ∷ 3160735768 ∷ 4229955584 ∷ 3087007744 ∷ 4234149890 ∷ 822280195 ∷ 4236247040 ∷ 3087073260 ∷ 3154509832 ∷ 4232052736 ∷ 4229955584 ∷ 4232052736 ∷ 3160932376 ∷ 3362201600 ∷ 3156672528 ∷ 814284799 ∷ 3156410376 ∷ 3640932352 ∷ 4249354240 ∷ 822345731 ∷ 4229955584 ∷ 4229955584 ∷ 3087073272 ∷ 4227858689 ∷ 4229955584 ∷ 4227858689 ∷ 4171235336 ∷ 4232052736 ∷ 4229955584 ∷ 1216753664 ∷ 4242538496 ∷ 4244635703 ∷ 3087073276 ∷ []);
  memory = (pos 1 ∷ negsuc 0 ∷ pos 0 ∷ pos 0 ∷ pos 1 ∷ negsuc 0 ∷ []);
  inputs = ([]);
  outputs = (2 ∷ 1 ∷ []);
  slots = (54 ∷ 35 ∷ 46 ∷ []);
  aborts = record { weak = true; cond = 40; handler = 37 } ∷ record { weak = true; cond = 41; handler = 54 } ∷ record { weak = true; cond = 42; handler = 29 } ∷ [];
  pauses = record { at = 1; slot = 1; stack = (0 ∷ 2 ∷ []) } ∷ record { at = 26; slot = 1; stack = (0 ∷ 2 ∷ []) } ∷ record { at = 29; slot = 1; stack = (0 ∷ []) } ∷ record { at = 37; slot = 1; stack = ([]) } ∷ record { at = 47; slot = 2; stack = ([]) } ∷ record { at = 48; slot = 2; stack = ([]) } ∷ record { at = 51; slot = 0; stack = ([]) } ∷ record { at = 55; slot = 0; stack = (1 ∷ []) } ∷ [];
  forks = record { at = 50; slot = 0; stack = ([]) } ∷ record { at = 52; slot = 0; stack = ([]) } ∷ [];
}

run_83 : seen image_83 (9 ∷ 2 ∷ 2 ∷ 7 ∷ 2 ∷ 4 ∷ 9 ∷ 5 ∷ 9 ∷ 8 ∷ 9 ∷ 2 ∷ 6 ∷ 6 ∷ 8 ∷ 5 ∷ 5 ∷ 7 ∷ 2 ∷ 5 ∷ 1 ∷ 3 ∷ []) 3000 (loaded_unit image_83) (loaded_cells image_83) ((([]), ([])) ∷ (([]), ([])) ∷ (([]), ([])) ∷ (([]), ([])) ∷ (([]), ([])) ∷ []) ≡ Ended 15 (pos 0 ∷ negsuc 0 ∷ []) ∷ Ended 9 (pos 0 ∷ negsuc 0 ∷ []) ∷ Ended 9 (pos 0 ∷ negsuc 0 ∷ []) ∷ Ended 9 (pos 0 ∷ negsuc 0 ∷ []) ∷ Ended 9 (pos 0 ∷ negsuc 0 ∷ []) ∷ []
unfolding run int_wrap image_83
run_83 = refl

image_84 : Parts
image_84 = record {
  code = (3162505244 ∷ 276957184 ∷ 2690940927 ∷ 2223120384 ∷ 2690842623 ∷ 3156475884 ∷ 2818670592 ∷ 2823028737 ∷ 1210255360 ∷ 1140982272 ∷ 4229955584 ∷ 3087073236 ∷ []);
  memory = (pos 3 ∷ pos 0 ∷ negsuc 2147483647 ∷ pos 0 ∷ []);
  inputs = (0 ∷ 1 ∷ []);
  outputs = (1 ∷ 2 ∷ 3 ∷ []);
  slots = (0 ∷ []);
  aborts = [];
  pauses = record { at = 10; slot = 0; stack = ([]) } ∷ [];
  forks = [];
}

run_84 : seen image_84 (142 ∷ 8 ∷ 38 ∷ 196 ∷ 199 ∷ 254 ∷ 201 ∷ 187 ∷ 182 ∷ 124 ∷ 7 ∷ 183 ∷ 155 ∷ 162 ∷ 167 ∷ 35 ∷ 226 ∷ 141 ∷ 153 ∷ 158 ∷ 237 ∷ 49 ∷ []) 300 (loaded_unit image_84) (loaded_cells image_84) (((negsuc 0 ∷ pos 8 ∷ []), ([])) ∷ []) ≡ Stopped Late 0 ∷ []
unfolding run int_wrap image_84
run_84 = refl

image_85 : Parts
image_85 = record {
  code = (3156410528 ∷ 3160866872 ∷ 3160801392 ∷ 3158638652 ∷ 3087007800 ∷ 2952790017 ∷ 811794433 ∷ 4229955584 ∷ 4232052736 ∷ 4229955584 ∷ 4242538497 ∷ 4244635697 ∷ 3158638596 ∷ 3087073272 ∷ 818216961 ∷ 3158638600 ∷ 820314111 ∷ 4249092096 ∷ 3154378760 ∷ 4242538497 ∷ 2952790016 ∷ 811794433 ∷ 2952790016 ∷ 811794433 ∷ 2952790017 ∷ 811794433 ∷ 3160735788 ∷ 3087007768 ∷ 4169138180 ∷ 814153727 ∷ 3087073240 ∷ 2952790016 ∷ 811794433 ∷ 822345729 ∷ 1155861504 ∷ 3087007752 ∷ 4169138180 ∷ 820314113 ∷ 822476801 ∷ 3162832808 ∷ 4249288704 ∷ 2952790017 ∷ 811794433 ∷ 818085889 ∷ 2952790016 ∷ 811794433 ∷ 4229955584 ∷ 3087073268 ∷ 3154378596 ∷ 4229955584 ∷ 4232052736 ∷ []);
  memory = (pos 1 ∷ pos 0 ∷ pos 0 ∷ negsuc 0 ∷ negsuc 0 ∷ negsuc 0 ∷ []);
  inputs = ([]);
  outputs = ([]);
  slots = (46 ∷ 5 ∷ 50 ∷ []);
  aborts = [];
  pauses = record { at = 7; slot = 1; stack = ([]) } ∷ record { at = 9; slot = 2; stack = ([]) } ∷ record { at = 46; slot = 0; stack = ([]) } ∷ record { at = 49; slot = 2; stack = ([]) } ∷ [];
  forks = [];
}

run_85 : seen image_85 (174 ∷ 214 ∷ 26 ∷ 119 ∷ 23 ∷ 37 ∷ 132 ∷ 193 ∷ 164 ∷ 40 ∷ 69 ∷ 20 ∷ 6 ∷ 178 ∷ 66 ∷ 198 ∷ 80 ∷ 228 ∷ 4 ∷ 238 ∷ 134 ∷ 180 ∷ []) 300 (loaded_unit image_85) (loaded_cells image_85) ((([]), ([])) ∷ (([]), ([])) ∷ []) ≡ Ended 200 ([]) ∷ Stopped Late 47 ∷ []
unfolding run int_wrap image_85
run_85 = refl

image_86 : Parts
image_86 = record {
  code = (3904897044 ∷ 4232052736 ∷ 4242538499 ∷ 4244635666 ∷ 3906994176 ∷ 3154575408 ∷ 3898605584 ∷ 2757951489 ∷ 3158507532 ∷ 822607874 ∷ 3087007764 ∷ 2952790018 ∷ 2762211321 ∷ 3902799880 ∷ 3900702736 ∷ 4175429640 ∷ 3087073228 ∷ 4246732800 ∷ 4240441344 ∷ 2952790016 ∷ 4242538497 ∷ 4244635688 ∷ 3900702720 ∷ 2952790016 ∷ 3160670268 ∷ 4177526804 ∷ 3904897044 ∷ 4175429636 ∷ 4242538498 ∷ 4244635686 ∷ 3902799884 ∷ 2762276865 ∷ 3162832916 ∷ 2952790017 ∷ 816054263 ∷ 1147551744 ∷ 3087073252 ∷ 4246732800 ∷ 3087073212 ∷ 4246732800 ∷ 4242538498 ∷ 4244635709 ∷ 3900702720 ∷ 3164864580 ∷ 2952790016 ∷ 4242538501 ∷ 4244635706 ∷ 3909091344 ∷ 2768764931 ∷ 3163029536 ∷ 822345728 ∷ 4173332500 ∷ 1149778944 ∷ 2952855550 ∷ 2831613955 ∷ 3900702740 ∷ 3087073240 ∷ 4246732800 ∷ 4238344194 ∷ 3087073208 ∷ 4246732800 ∷ 4240441344 ∷ []);
  memory = (pos 0 ∷ pos 5 ∷ pos 0 ∷ pos 1 ∷ pos 5 ∷ pos 5 ∷ []);
  inputs = (0 ∷ 4 ∷ []);
  outputs = (3 ∷ 5 ∷ []);
  slots = (0 ∷ []);
  aborts = [];
  pauses = [];
  forks = [];
}

run_86 : seen image_86 (1 ∷ 1 ∷ 1 ∷ 1 ∷ 2 ∷ 2 ∷ 1 ∷ 1 ∷ 100 ∷ 100 ∷ 2 ∷ 100 ∷ 2 ∷ 1 ∷ 1 ∷ 100 ∷ 1 ∷ 1 ∷ 100 ∷ 2 ∷ 1 ∷ 2 ∷ []) 40 (loaded_unit image_86) (loaded_cells image_86) (((pos 8 ∷ negsuc 5 ∷ []), ([])) ∷ ((negsuc 0 ∷ negsuc 7 ∷ []), ([])) ∷ ((pos 0 ∷ pos 3 ∷ []), ([])) ∷ ((negsuc 4 ∷ pos 1 ∷ []), ([])) ∷ ((negsuc 0 ∷ pos 7 ∷ []), ([])) ∷ []) ≡ Ended 14 (pos 1 ∷ pos 5 ∷ []) ∷ Ended 10 (pos 1 ∷ pos 5 ∷ []) ∷ Ended 10 (pos 1 ∷ pos 5 ∷ []) ∷ Ended 10 (pos 1 ∷ pos 5 ∷ []) ∷ Ended 10 (pos 1 ∷ pos 5 ∷ []) ∷ []
unfolding run int_wrap image_86
run_86 = refl

image_87 : Parts
image_87 = record {
  code = (3160473632 ∷ 2151817216 ∷ 3158507516 ∷ 3355580416 ∷ 3162505228 ∷ 2826960903 ∷ 2290094080 ∷ 272834560 ∷ 4229955584 ∷ 3087073244 ∷ []);
  memory = (pos 3 ∷ pos 3 ∷ pos 2147483647 ∷ negsuc 6 ∷ []);
  inputs = (0 ∷ 1 ∷ []);
  outputs = (1 ∷ 2 ∷ 3 ∷ []);
  slots = (0 ∷ []);
  aborts = [];
  pauses = record { at = 8; slot = 0; stack = ([]) } ∷ [];
  forks = [];
}

run_87 : seen image_87 (53 ∷ 175 ∷ 89 ∷ 216 ∷ 50 ∷ 214 ∷ 153 ∷ 172 ∷ 123 ∷ 209 ∷ 148 ∷ 149 ∷ 76 ∷ 10 ∷ 238 ∷ 78 ∷ 27 ∷ 74 ∷ 254 ∷ 245 ∷ 214 ∷ 88 ∷ []) 40 (loaded_unit image_87) (loaded_cells image_87) (((pos 0 ∷ pos 0 ∷ []), ([])) ∷ []) ≡ Stopped Late 0 ∷ []
unfolding run int_wrap image_87
run_87 = refl

image_88 : Parts
image_88 = record {
  code = (4229955584 ∷ 4229955584 ∷ 2952790016 ∷ []);
  memory = (pos 1 ∷ pos 0 ∷ pos 0 ∷ pos 0 ∷ pos 5 ∷ pos 0 ∷ pos 0 ∷ pos 0 ∷ []);
  inputs = ([]);
  outputs = (5 ∷ []);
  slots = (0 ∷ []);
  aborts = [];
  pauses = record { at = 0; slot = 0; stack = ([]) } ∷ record { at = 1; slot = 0; stack = ([]) } ∷ [];
  forks = [];
}

run_88 : seen image_88 (1 ∷ 1 ∷ 1 ∷ 1 ∷ 1 ∷ 1 ∷ 1 ∷ 1 ∷ 1 ∷ 1 ∷ 1 ∷ 1 ∷ 1 ∷ 1 ∷ 1 ∷ 1 ∷ 1 ∷ 1 ∷ 1 ∷ 1 ∷ 1 ∷ 1 ∷ []) 3000 (loaded_unit image_88) (loaded_cells image_88) ((([]), ([])) ∷ (([]), ([])) ∷ (([]), ([])) ∷ []) ≡ Ended 3 (pos 0 ∷ []) ∷ Ended 3 (pos 0 ∷ []) ∷ Stopped OutOfCode 3 ∷ []
unfolding run int_wrap image_88
run_88 = refl

image_89 : Parts
image_89 = record {
  code = (812122111 ∷ 816381951 ∷ 818413571 ∷ 3087007812 ∷ 1149510656 ∷ 3909091344 ∷ 3904897024 ∷ 4171235328 ∷ 3154640968 ∷ 2952790016 ∷ 811794433 ∷ 4249288704 ∷ 4236247040 ∷ 1149582336 ∷ 4234149889 ∷ 4227858690 ∷ 822280193 ∷ 4229955584 ∷ 4236247040 ∷ 3087007784 ∷ 818151427 ∷ 3156606992 ∷ 3154444304 ∷ 4169138176 ∷ 1080492032 ∷ 3160866760 ∷ 4249354240 ∷ 3902799876 ∷ 4232052736 ∷ 2952790016 ∷ 4242538498 ∷ 4244635699 ∷ 3162898452 ∷ 3632476160 ∷ 4244635700 ∷ 3160735764 ∷ 3165061128 ∷ 3087073256 ∷ 3902799892 ∷ 3156410372 ∷ 3087073244 ∷ 4246732800 ∷ 4236247040 ∷ 1220943872 ∷ 3162832916 ∷ 4229955584 ∷ 4229955584 ∷ 4229955584 ∷ 3087007752 ∷ 820183041 ∷ 4234149888 ∷ 4229955584 ∷ 4236247040 ∷ 3087073180 ∷ 4229955584 ∷ 3165126664 ∷ 4229955584 ∷ 3154378760 ∷ 4229955584 ∷ 4229955584 ∷ 4232052736 ∷ 812056575 ∷ 3162898436 ∷ 4229955584 ∷ 4242538497 ∷ 4244635712 ∷ 3087073276 ∷ []);
  memory = (pos 0 ∷ pos 1 ∷ negsuc 0 ∷ negsuc 0 ∷ negsuc 0 ∷ pos 1 ∷ []);
  inputs = ([]);
  outputs = (3 ∷ []);
  slots = (27 ∷ 61 ∷ 55 ∷ []);
  aborts = record { weak = false; cond = 3; handler = 46 } ∷ record { weak = true; cond = 20; handler = 19 } ∷ [];
  pauses = record { at = 17; slot = 0; stack = (0 ∷ 1 ∷ []) } ∷ record { at = 45; slot = 0; stack = ([]) } ∷ record { at = 46; slot = 0; stack = ([]) } ∷ record { at = 47; slot = 0; stack = ([]) } ∷ record { at = 51; slot = 0; stack = (0 ∷ []) } ∷ record { at = 54; slot = 2; stack = ([]) } ∷ record { at = 56; slot = 2; stack = ([]) } ∷ record { at = 58; slot = 2; stack = ([]) } ∷ record { at = 59; slot = 2; stack = ([]) } ∷ record { at = 63; slot = 1; stack = ([]) } ∷ [];
  forks = record { at = 15; slot = 0; stack = (0 ∷ 1 ∷ []) } ∷ [];
}

run_89 : seen image_89 (1 ∷ 1 ∷ 1 ∷ 1 ∷ 1 ∷ 1 ∷ 1 ∷ 1 ∷ 1 ∷ 1 ∷ 1 ∷ 1 ∷ 1 ∷ 1 ∷ 1 ∷ 1 ∷ 1 ∷ 1 ∷ 1 ∷ 1 ∷ 1 ∷ 1 ∷ []) 40 (loaded_unit image_89) (loaded_cells image_89) ((([]), ([])) ∷ (([]), ([])) ∷ (([]), ([])) ∷ (([]), ([])) ∷ (([]), ([])) ∷ []) ≡ Ended 4 (negsuc 0 ∷ []) ∷ Ended 2 (negsuc 0 ∷ []) ∷ Ended 2 (negsuc 0 ∷ []) ∷ Ended 2 (negsuc 0 ∷ []) ∷ Ended 2 (negsuc 0 ∷ []) ∷ []
unfolding run int_wrap image_89
run_89 = refl
