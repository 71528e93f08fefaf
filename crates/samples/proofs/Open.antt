-- One name that opens every definition of the specs: a proof by computation says `unfolding open-specs`.
-- Written by tools/open_specs.py from the specs of all floors. Assumes nothing.
use Rattle.names.specs.Lists.{padded}
use Rattle.names.specs.Names.{is_letter, is_digit, underscore, is_first, is_other, non_zero, are_name_characters, text, is_blank, is_name, is_name_or_blank, field_at}
use Rattle.names.specs.Judging.{judged}
use Rattle.flat_table.specs.Classes.{is_class, has_parent, parent_allowed, reference_table, reference_allowed}
use Rattle.flat_table.specs.Table.{most_rows, table_answer, rows_from, row_count, rows, row_kind, row_name, row_parent, row_reference, row_named, fault₁₄, is_malformed_row, fault₁₅, is_repeated_row, fault₁₆, is_link_fault, is_parent_row, is_parent_fault, is_reference_row, is_reference_fault, is_row_fault, fault₁₇, table_rows, verdict_of, flat_width, flat_length, table_verdict}
use Rattle.recipe.specs.Records.{is_known, record_length, kind, is_model, is_element, is_port, is_submodel, is_deletion, is_replacement, is_replaced_by, is_mark, is_factors, next, is_readable, places_from, stop_from, places, stop, field, byte, first_field, name, class, parent_field, reference_field, model_field, submodel_offset, submodel_field, way, target_field, time_field, extent_field}
use Rattle.recipe.specs.Definitions.{main, definitions, holder, records_of, elements, submodels, ports, is_declared, named, definition_named, element_named, submodel_named, port_named, model_of, owner_of, element_in, submodel_of, named_by, scaled_by, scales, factors_of}
use Rattle.recipe.specs.Reaching.{reaches_in, reaches}
use Rattle.recipe.specs.Reading.{at_start, most_bytes, fault₁, fault₂, ends_with_underscore, is_way, reads, reads_behind, is_form, fault₃, share_names, repeats, fault₄, is_parent, is_parent_fault as is_parent_fault', is_own_port_fault, is_submodel_field_fault, is_owner_fault, is_model_fault, is_port_fault, is_undeclared, fault₅, gave_factors, is_factors_fault, fault₁₉, fault₆}
use Rattle.tree.specs.Tree.{paths_below, most_depth, instances, definition_below, definition_at, node, same_node, nodes, tree_elements, parent_of, reference_of, through, element_target, target_named, submodel_names, target_below, target_by, target_within, target}
use Rattle.tree.specs.Faults.{most_instances, most_elements, is_too_large, fault₇, is_target_fault, fault₈, is_class_fault, fault₁₀}
use Rattle.marks.specs.Marks.{tree_marks, tree_pointers, from, aim, aims_at, same_aim, owner, owns_by, removes, replaces, is_marked_gone, is_gone, survivors, step_down, step, chain_within, chain_end, is_at_or_below, marks_clash, owner_clash, ports_clash, port_clash, conflict}
use Rattle.marks.specs.Faults.{conflicts_with_earlier, fault₉, aims_at_gone, fault₁₁, is_reference, is_reference_fault as is_reference_fault', fault₁₂, factor_named, is_factor, is_factor_fault, has_factor_fault, is_unfactored, fault₂₀}
use Rattle.compose.specs.Rows.{refusal_of}
use Rattle.flat_names.specs.Prefixes.{declared_names, names_around, with_underscores, is_taken, fewest_from, fewest, prefix, flat_name}
use Rattle.flat_names.specs.Underscores.{run_first, run_behind, raised, raises, tries}
use Rattle.composer.specs.Flat.{flat_field, flat_reference, flat_record, flat}
use Rattle.composer.specs.Verdicts.{name_width, recipe_of, fault₁₃, accepted, refused, refused_or, verdict, written}
use Rattle.composer.specs.Printed.{characters, decimal_in, decimal, shown, row_line, table_lines, refusal_line, printed_of, printed, input_room, output_room, program_output}
use Rattle.origins.specs.Origins.{is_named, origin_of, walked_to, walk_refused, walk_answer, walk_back}
use Rattle.factors.specs.Companion.{is_rated, rated, factor_for, factor_at, factor_fields, companion_record, companion, entry_length, both_fault₁₃, factors_accepted, factors_refused, factors_refused_or, factors_verdict, filled_with, table_after, companion_after}
use Rattle.sizes.specs.Size.{greatest, longest_name, sized, size_refused, size}
use Rattle.samples.specs.Samples.{name_field, model, element, port, submodel, deletion, replacement, replaced_by, row, cell, sample, c1, a_of_cell, c_for_v, sample_r, table_r, line5, line6, refuses, gives, starred, reactor, plant, shell, five_steps, pair, nested, ports_down, beside, tree64, five, elements1023, more_of_reading, more_of_tree, more_of_conflicts, more_of_gone, more_of_prefixes, unclosed, closed, starred_tables, more_tables, output_before, same_answer, holds_of, table_holds_of, printed_holds, starred_hold, lengths_hold, tries_hold, more_hold}
use Rattle.samples.specs.Walks.{flat_name_field, walked, unwalked, lengthened, deepest, walks, walk_holds_of, walks_hold}
use Rattle.samples.specs.Companions.{factors, entry, entered, unentered, parameter, levels, around, more_entered, more_unentered, companion_holds_of, companions_hold}
use Rattle.samples.specs.Sizes.{measured, unmeasured, longest_names, size_samples, size_holds_of, sizes_hold}

unfoldable pub open-specs : Unit {0}
unfolding padded is_letter is_digit underscore is_first is_other non_zero are_name_characters text is_blank is_name is_name_or_blank field_at judged is_class has_parent parent_allowed reference_table reference_allowed most_rows table_answer rows_from row_count rows row_kind row_name row_parent row_reference row_named fault₁₄ is_malformed_row fault₁₅ is_repeated_row fault₁₆ is_link_fault is_parent_row is_parent_fault is_reference_row is_reference_fault is_row_fault fault₁₇ table_rows verdict_of flat_width flat_length table_verdict is_known record_length kind is_model is_element is_port is_submodel is_deletion is_replacement is_replaced_by is_mark is_factors next is_readable places_from stop_from places stop field byte first_field name class parent_field reference_field model_field submodel_offset submodel_field way target_field time_field extent_field main definitions holder records_of elements submodels ports is_declared named definition_named element_named submodel_named port_named model_of owner_of element_in submodel_of named_by scaled_by scales factors_of reaches_in reaches at_start most_bytes fault₁ fault₂ ends_with_underscore is_way reads reads_behind is_form fault₃ share_names repeats fault₄ is_parent is_parent_fault' is_own_port_fault is_submodel_field_fault is_owner_fault is_model_fault is_port_fault is_undeclared fault₅ gave_factors is_factors_fault fault₁₉ fault₆ paths_below most_depth instances definition_below definition_at node same_node nodes tree_elements parent_of reference_of through element_target target_named submodel_names target_below target_by target_within target most_instances most_elements is_too_large fault₇ is_target_fault fault₈ is_class_fault fault₁₀ tree_marks tree_pointers from aim aims_at same_aim owner owns_by removes replaces is_marked_gone is_gone survivors step_down step chain_within chain_end is_at_or_below marks_clash owner_clash ports_clash port_clash conflict conflicts_with_earlier fault₉ aims_at_gone fault₁₁ is_reference is_reference_fault' fault₁₂ factor_named is_factor is_factor_fault has_factor_fault is_unfactored fault₂₀ refusal_of declared_names names_around with_underscores is_taken fewest_from fewest prefix flat_name run_first run_behind raised raises tries flat_field flat_reference flat_record flat name_width recipe_of fault₁₃ accepted refused refused_or verdict written characters decimal_in decimal shown row_line table_lines refusal_line printed_of printed input_room output_room program_output is_named origin_of walked_to walk_refused walk_answer walk_back is_rated rated factor_for factor_at factor_fields companion_record companion entry_length both_fault₁₃ factors_accepted factors_refused factors_refused_or factors_verdict filled_with table_after companion_after greatest longest_name sized size_refused size name_field model element port submodel deletion replacement replaced_by row cell sample c1 a_of_cell c_for_v sample_r table_r line5 line6 refuses gives starred reactor plant shell five_steps pair nested ports_down beside tree64 five elements1023 more_of_reading more_of_tree more_of_conflicts more_of_gone more_of_prefixes unclosed closed starred_tables more_tables output_before same_answer holds_of table_holds_of printed_holds starred_hold lengths_hold tries_hold more_hold flat_name_field walked unwalked lengthened deepest walks walk_holds_of walks_hold factors entry entered unentered parameter levels around more_entered more_unentered companion_holds_of companions_hold measured unmeasured longest_names size_samples size_holds_of sizes_hold
open-specs = tt
