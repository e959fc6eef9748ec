-- The names of Rust's grammar, and where each is laid out. Made by checks/lay_out_grammar.py.
use Rattle.std.specs.Prelude.{ℕ}

-- the names, as docs/GRAMMAR.md has them
pub data Name : Type 0 where
  type_path : Name
  type_path_segments : Name
  more_type_path_segments : Name
  type_path_segment : Name
  inputs : Name
  less : Name
  generic_arguments : Name
  generic_argument : Name
  generic_argument_end : Name
  generic_argument_value : Name
  const_argument : Name
  qualified_self : Name
  expression_path : Name
  expression_path_segments : Name
  expression_path_segment : Name
  simple_path : Name
  any_type : Name
  type : Name
  behind_type_path : Name
  type_no_bounds : Name
  types : Name
  more_bounds : Name
  bare_bound : Name
  modified_path : Name
  plain_type : Name
  pointer_type : Name
  array_type : Name
  reference_type : Name
  binder_type : Name
  function_type : Name
  generator_type : Name
  maybe_named_parameters : Name
  maybe_named_parameter : Name
  bounds : Name
  some_bounds : Name
  bound : Name
  trait_bound : Name
  use_bound : Name
  maybe_const : Name
  begins_bound : Name
  for_lifetimes : Name
  lifetime_parameter : Name
  use_argument : Name
  pattern_fragment : Name
  pattern_param_fragment : Name
  pattern : Name
  pattern_no_top_alt : Name
  pattern_without_range : Name
  patterns : Name
  range_tail : Name
  old_range_tail : Name
  range_operator : Name
  range_end : Name
  fields : Name
  struct_pattern_elements : Name
  struct_pattern_field : Name
  field_pattern : Name
  field_name : Name
  reference_pattern : Name
  identifier_pattern : Name
  binding : Name
  expression_2021_fragment : Name
  expression : Name
  expression_before_block : Name
  behind_operation : Name
  behind_operation_before_block : Name
  range : Name
  range_before_block : Name
  operation : Name
  operation_before_block : Name
  operand : Name
  operand_before_block : Name
  unary : Name
  unary_before_block : Name
  unary_operator : Name
  postfix : Name
  bad_postfix : Name
  closure : Name
  closure_before_block : Name
  closure_head : Name
  closure_parameter : Name
  jump : Name
  jump_before_block : Name
  primary : Name
  primary_before_block : Name
  variable : Name
  variable_before_block : Name
  expressions : Name
  some_expressions : Name
  array_elements : Name
  struct_expression_fields : Name
  struct_expression_field : Name
  field_value : Name
  basic : Name
  block_like : Name
  label : Name
  loop : Name
  conditions : Name
  let_chain : Name
  let_condition : Name
  let_value : Name
  match_arms : Name
  match_arm : Name
  arm_body : Name
  guard : Name
  guard_chain : Name
  guard_condition : Name
  guard_value : Name
  expression_with_block : Name
  lazy_operator : Name
  begins : Name
  inner_attribute : Name
  attribute : Name
  meta : Name
  plain_meta : Name
  visibility : Name
  visibility_place : Name
  block : Name
  statements : Name
  statement : Name
  let_statement : Name
  closed_statement : Name
  items : Name
  item : Name
  declaration : Name
  item_kind : Name
  macro_item : Name
  macro_rules_item : Name
  macro_rules : Name
  macro_definition : Name
  use_declaration : Name
  use_trees : Name
  use_tree : Name
  extern_crate : Name
  rename : Name
  static_item : Name
  constant_item : Name
  function : Name
  function_parameters : Name
  self_parameter : Name
  function_parameter : Name
  function_qualifiers : Name
  module_item : Name
  extern_block : Name
  external_items : Name
  external_item : Name
  type_alias : Name
  structure : Name
  struct_fields : Name
  struct_field : Name
  tuple_fields : Name
  tuple_field : Name
  types_behind_pub : Name
  enumeration : Name
  enum_variants : Name
  enum_variant : Name
  union : Name
  trait : Name
  implementation : Name
  trait_implementation : Name
  associated_items : Name
  associated_item : Name
  generic_parameters : Name
  generic_parameter : Name
  where_clause : Name
  where_predicate : Name
  tokens : Name
  loose_macro_rules_item : Name

-- where a name is laid out
abbrev pub start : Name → ℕ
start type_path = 0
start type_path_segments = 5
start more_type_path_segments = 7
start type_path_segment = 17
start inputs = 31
start less = 34
start generic_arguments = 44
start generic_argument = 55
start generic_argument_end = 76
start generic_argument_value = 78
start const_argument = 81
start qualified_self = 95
start expression_path = 103
start expression_path_segments = 107
start expression_path_segment = 113
start simple_path = 119
start any_type = 124
start type = 132
start behind_type_path = 164
start type_no_bounds = 172
start types = 194
start more_bounds = 200
start bare_bound = 206
start modified_path = 214
start plain_type = 223
start pointer_type = 233
start array_type = 238
start reference_type = 243
start binder_type = 250
start function_type = 254
start generator_type = 268
start maybe_named_parameters = 272
start maybe_named_parameter = 280
start bounds = 299
start some_bounds = 301
start bound = 303
start trait_bound = 308
start use_bound = 321
start maybe_const = 331
start begins_bound = 332
start for_lifetimes = 349
start lifetime_parameter = 351
start use_argument = 358
start pattern_fragment = 362
start pattern_param_fragment = 367
start pattern = 369
start pattern_no_top_alt = 385
start pattern_without_range = 419
start patterns = 455
start range_tail = 462
start old_range_tail = 466
start range_operator = 468
start range_end = 471
start fields = 475
start struct_pattern_elements = 478
start struct_pattern_field = 484
start field_pattern = 490
start field_name = 500
start reference_pattern = 501
start identifier_pattern = 504
start binding = 525
start expression_2021_fragment = 527
start expression = 531
start expression_before_block = 534
start behind_operation = 537
start behind_operation_before_block = 545
start range = 551
start range_before_block = 562
start operation = 575
start operation_before_block = 587
start operand = 594
start operand_before_block = 597
start unary = 600
start unary_before_block = 614
start unary_operator = 624
start postfix = 633
start bad_postfix = 661
start closure = 663
start closure_before_block = 671
start closure_head = 675
start closure_parameter = 700
start jump = 705
start jump_before_block = 721
start primary = 731
start primary_before_block = 743
start variable = 751
start variable_before_block = 756
start expressions = 760
start some_expressions = 763
start array_elements = 766
start struct_expression_fields = 772
start struct_expression_field = 779
start field_value = 784
start basic = 785
start block_like = 795
start label = 827
start loop = 829
start conditions = 844
start let_chain = 866
start let_condition = 873
start let_value = 877
start match_arms = 888
start match_arm = 892
start arm_body = 900
start guard = 906
start guard_chain = 925
start guard_condition = 931
start guard_value = 935
start expression_with_block = 943
start lazy_operator = 951
start begins = 953
start inner_attribute = 955
start attribute = 960
start meta = 962
start plain_meta = 966
start visibility = 971
start visibility_place = 977
start block = 985
start statements = 987
start statement = 997
start let_statement = 1003
start closed_statement = 1015
start items = 1027
start item = 1030
start declaration = 1037
start item_kind = 1044
start macro_item = 1058
start macro_rules_item = 1063
start macro_rules = 1065
start macro_definition = 1070
start use_declaration = 1076
start use_trees = 1079
start use_tree = 1082
start extern_crate = 1093
start rename = 1100
start static_item = 1103
start constant_item = 1114
start function = 1127
start function_parameters = 1139
start self_parameter = 1143
start function_parameter = 1151
start function_qualifiers = 1157
start module_item = 1163
start extern_block = 1170
start external_items = 1175
start external_item = 1178
start type_alias = 1184
start structure = 1195
start struct_fields = 1206
start struct_field = 1209
start tuple_fields = 1216
start tuple_field = 1219
start types_behind_pub = 1234
start enumeration = 1240
start enum_variants = 1247
start enum_variant = 1250
start union = 1257
start trait = 1263
start implementation = 1279
start trait_implementation = 1286
start associated_items = 1299
start associated_item = 1302
start generic_parameters = 1310
start generic_parameter = 1318
start where_clause = 1333
start where_predicate = 1345
start tokens = 1354
start loose_macro_rules_item = 1367
