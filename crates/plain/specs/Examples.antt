-- Small services through the definitions: the calls in their order, and what they answer at a capacity. A service starts Bare.
use Rattle.std.specs.Prelude.{◌≡◌, ℕ, List, [], ◌∷◌, ◌++◌}
use Rattle.records.specs.declared.faults.Cause.TheVariants.{NoFunction}
use Rattle.plain.specs.Calls.{Request, load, feed, fund, one_step, advance, pull, abandon, ask_price, ask_free, ask_held, ask_state}
use Rattle.plain.specs.Calls.{is_bare, is_open, is_running, is_done, excluded, advance_excluded, bad_sheet, bad_record, bad_type}
use Rattle.plain.specs.Calls.{too_few_entries, other_type, too_many_entries, other_parameters, too_dear, too_deep, too_deep_after, no_free_cell}
use Rattle.plain.specs.Calls.{Answer, accepted, in_phase, advanced, pulled, at_end, counted, refused_with}
use Rattle.plain.specs.States.{bare}
use Rattle.plain.specs.Service.{answers_to}
use Rattle.plain.specs.Samples.{doubling, leaving_one, number_record, empty_record, node_record, two_items, times, sevens}

-- these calls, from the making of the service on, answer this
pub record Example : Type 0 where
  pub capacity : ℕ
  pub calls : List Request
  pub answers : List Answer

abbrev pub example : ℕ → List Request → List Answer → Example
example capacity calls answers = record { capacity = capacity; calls = calls; answers = answers }

-- 5 and 7 are doubled at exactly the price; the numbers come one by one, and then the end
abbrev pub doubled : Example
doubled =
    example 4
    (two_items ++ (ask_price ∷ ask_free ∷ fund ∷ advance 100 ∷ ask_free ∷ pull ∷ pull ∷ ask_held ∷ pull ∷ pull ∷ pull ∷ ask_state ∷ []))
    (times 6 accepted ++ (counted 2 ∷ counted 2 ∷ accepted ∷ advanced 13 is_done ∷ counted 0 ∷ pulled 5 ∷ pulled 5 ∷ counted 2 ∷ pulled 7 ∷ pulled 7 ∷ at_end ∷ in_phase is_open ∷ []))

-- one cell fewer, and the fund is refused with the price
abbrev pub one_cell_short : Example
one_cell_short = example 3 (two_items ++ (fund ∷ ask_state ∷ [])) (times 6 accepted ++ (refused_with (too_dear 2) ∷ in_phase is_open ∷ []))

-- at a capacity of 1 the second node finds no free cell
abbrev pub no_cell_for_a_node : Example
no_cell_for_a_node = example 1 two_items (times 5 accepted ++ (refused_with no_free_cell ∷ []))

-- feed records that are none
abbrev pub bad_records : Example
bad_records =
    example 4
    (load doubling ∷ feed [] ∷ feed (0x53 ∷ 1 ∷ []) ∷ feed (0x50 ∷ 0 ∷ 0 ∷ 7 ∷ []) ∷ feed (0x51 ∷ []) ∷ feed (0x52 ∷ 1 ∷ 0 ∷ []) ∷ [])
    (accepted ∷ times 5 (refused_with bad_record))

-- Number and an unknown type are no list types
abbrev pub bad_types : Example
bad_types =
    example 4 (load doubling ∷ feed (empty_record 0) ∷ feed (empty_record 3) ∷ feed (node_record 0) ∷ feed (node_record 3) ∷ [])
    (accepted ∷ times 4 (refused_with bad_type))

-- a node wants two entries, with the right type numbers
abbrev pub bad_nodes : Example
bad_nodes =
    example 4
    (load doubling ∷ feed (node_record 1) ∷ feed (empty_record 1) ∷ feed (node_record 1) ∷ feed (empty_record 1) ∷ feed (node_record 1) ∷ feed (number_record 7) ∷ feed (node_record 2) ∷ feed (node_record 1) ∷ [])
    (accepted ∷ refused_with too_few_entries ∷ accepted ∷ refused_with too_few_entries ∷ accepted ∷ refused_with other_type ∷ accepted ∷ refused_with other_type ∷ accepted ∷ [])

-- the 17th entry
abbrev pub seventeen_entries : Example
seventeen_entries =
    example 4 (load doubling ∷ times 17 (feed (number_record 7))) (accepted ∷ (times 16 accepted ++ (refused_with too_many_entries ∷ [])))

-- entries that are not the parameters
abbrev pub wrong_parameters : Example
wrong_parameters =
    example 4 (load doubling ∷ fund ∷ feed (empty_record 2) ∷ fund ∷ abandon ∷ feed (empty_record 1) ∷ fund ∷ ask_state ∷ [])
    (accepted ∷ refused_with other_parameters ∷ accepted ∷ refused_with other_parameters ∷ accepted ∷ accepted ∷ accepted ∷ in_phase is_running ∷ [])

-- the run of `leaving_one` at exactly the price: one cell is free when it ends, the remainder, and two once the result is pulled
abbrev pub a_remainder : Example
a_remainder =
    example 2 (load leaving_one ∷ ask_price ∷ fund ∷ ask_price ∷ one_step ∷ one_step ∷ one_step ∷ ask_free ∷ one_step ∷ ask_free ∷ pull ∷ ask_free ∷ pull ∷ [])
    (accepted ∷ counted 2 ∷ accepted ∷ counted 0 ∷ times 3 (in_phase is_running) ++ (counted 1 ∷ in_phase is_done ∷ counted 1 ∷ pulled 7 ∷ counted 2 ∷ at_end ∷ []))

-- what a Bare service excludes, and that it stays so
abbrev pub excluded_when_bare : Example
excluded_when_bare =
    example 4 (feed (number_record 7) ∷ fund ∷ one_step ∷ advance 5 ∷ pull ∷ abandon ∷ ask_price ∷ ask_free ∷ ask_held ∷ ask_state ∷ [])
    (times 3 (refused_with excluded) ++ (refused_with advance_excluded ∷ refused_with excluded ∷ accepted ∷ counted 0 ∷ counted 4 ∷ counted 0 ∷ in_phase is_bare ∷ []))

-- what an Open one excludes, and a Running one; an advance of no steps makes none
abbrev pub excluded_later : Example
excluded_later =
    example 2 (load leaving_one ∷ one_step ∷ advance 5 ∷ pull ∷ fund ∷ load leaving_one ∷ feed [] ∷ fund ∷ pull ∷ advance 0 ∷ advance 4 ∷ load leaving_one ∷ one_step ∷ abandon ∷ ask_state ∷ [])
    (accepted ∷ refused_with excluded ∷ refused_with advance_excluded ∷ refused_with excluded ∷ accepted ∷ times 4 (refused_with excluded) ++
    (advanced 0 is_running ∷ advanced 4 is_done ∷ refused_with excluded ∷ refused_with excluded ∷ accepted ∷ in_phase is_open ∷ []))

-- a sheet that is refused leaves the one before
abbrev pub refused_sheet : Example
refused_sheet =
    example 2 (load [] ∷ ask_state ∷ load leaving_one ∷ load [] ∷ ask_price ∷ [])
    (refused_with (bad_sheet (record { cause = NoFunction; place = 0 })) ∷ in_phase is_bare ∷ accepted ∷
    refused_with (bad_sheet (record { cause = NoFunction; place = 0 })) ∷ counted 2 ∷ [])

-- 63 items are doubled in 318 steps; with 64, the 128th step is refused, and the 127 before it stand
abbrev pub deep_enough : Example
deep_enough =
    example 126 (load doubling ∷ feed (empty_record 1) ∷ (sevens 63 ++ (fund ∷ advance 1000 ∷ []))) (times 129 accepted ++ (advanced 318 is_done ∷ []))

abbrev pub one_too_deep : Example
one_too_deep =
    example 128 (load doubling ∷ feed (empty_record 1) ∷ (sevens 64 ++ (fund ∷ advance 1000 ∷ advance 0 ∷ one_step ∷ ask_state ∷ [])))
    (times 131 accepted ++ (refused_with (too_deep_after 127) ∷ advanced 0 is_running ∷ refused_with too_deep ∷ in_phase is_running ∷ []))

abbrev pub examples : List Example
examples =
    doubled ∷ one_cell_short ∷ no_cell_for_a_node ∷ bad_records ∷ bad_types ∷ bad_nodes ∷ seventeen_entries ∷ wrong_parameters ∷ a_remainder ∷
    excluded_when_bare ∷ excluded_later ∷ refused_sheet ∷ deep_enough ∷ one_too_deep ∷ []

pub data AllHold : List Example → Type 0 where
  none_left : AllHold []
  one_holds : {x : Example} {xs : List Example} → answers_to x.capacity bare x.calls ≡ x.answers → AllHold xs → AllHold (x ∷ xs)

abbrev pub ExamplesHold : Type 0
ExamplesHold = AllHold examples
