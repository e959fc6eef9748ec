-- Rust's grammar: the expression of each name, as in docs/GRAMMAR.md. Made by checks/lay_out_grammar.py.
use Rattle.std.specs.Prelude.{[], ◌∷◌, codes}
use Rattle.tt.specs.Types.DelimiterKind.TheVariants.{Parenthesis, Brace, Bracket}
use Rattle.mbe_grammar.specs.declared.test.Test.TheVariants as test
use Rattle.mbe_grammar.specs.declared.words.Word.TheVariants as it
use Rattle.mbe_grammar.specs.Expressions.{Expression, nothing, unit, name, many, never, maybe, ahead, all_of, one_of, word, lifetime, subtree, holding, opaque_holding, at_end, sign, front}
use Rattle.mbe_grammar.specs.Names.{Name, type_path, type_path_segments, more_type_path_segments, type_path_segment, inputs, less, generic_arguments, generic_argument, generic_argument_end, generic_argument_value, const_argument, qualified_self, expression_path, expression_path_segments, expression_path_segment, simple_path, any_type, type, behind_type_path, type_no_bounds, types, more_bounds, bare_bound, modified_path, plain_type, pointer_type, array_type, reference_type, binder_type, function_type, generator_type, maybe_named_parameters, maybe_named_parameter, bounds, some_bounds, bound, trait_bound, use_bound, maybe_const, begins_bound, for_lifetimes, lifetime_parameter, use_argument, pattern_fragment, pattern_param_fragment, pattern, pattern_no_top_alt, pattern_without_range, patterns, range_tail, old_range_tail, range_operator, range_end, fields, struct_pattern_elements, struct_pattern_field, field_pattern, field_name, reference_pattern, identifier_pattern, binding, expression_2021_fragment, expression, expression_before_block, behind_operation, behind_operation_before_block, range, range_before_block, operation, operation_before_block, operand, operand_before_block, unary, unary_before_block, unary_operator, postfix, bad_postfix, closure, closure_before_block, closure_head, closure_parameter, jump, jump_before_block, primary, primary_before_block, variable, variable_before_block, expressions, some_expressions, array_elements, struct_expression_fields, struct_expression_field, field_value, basic, block_like, label, loop, conditions, let_chain, let_condition, let_value, match_arms, match_arm, arm_body, guard, guard_chain, guard_condition, guard_value, expression_with_block, lazy_operator, begins, inner_attribute, attribute, meta, plain_meta, visibility, visibility_place, block, statements, statement, let_statement, closed_statement, items, item, declaration, item_kind, macro_item, macro_rules_item, macro_rules, macro_definition, use_declaration, use_trees, use_tree, extern_crate, rename, static_item, constant_item, function, function_parameters, self_parameter, function_parameter, function_qualifiers, module_item, extern_block, external_items, external_item, type_alias, structure, struct_fields, struct_field, tuple_fields, tuple_field, types_behind_pub, enumeration, enum_variants, enum_variant, union, trait, implementation, trait_implementation, associated_items, associated_item, generic_parameters, generic_parameter, where_clause, where_predicate, tokens, loose_macro_rules_item}

-- the expression of a name
abbrev pub stands : Name → Expression
stands type_path = all_of (maybe (sign (codes "::")) ∷ name type_path_segments ∷ [])
stands type_path_segments = all_of (name type_path_segment ∷ name more_type_path_segments ∷ [])
stands more_type_path_segments =
    all_of (many (all_of (sign (codes "::") ∷ name type_path_segment ∷ [])) ∷ never (all_of (sign (codes "::") ∷ never (one_of (subtree Brace ∷ sign (codes
    "*") ∷ [])) ∷ [])) ∷ [])
stands type_path_segment =
    all_of (unit test.PathSegment ∷ one_of (all_of (maybe (sign (codes "::")) ∷ name generic_arguments ∷ []) ∷ all_of (maybe (sign (codes "::")) ∷ one_of
    (all_of (holding Parenthesis types ∷ sign (codes "->") ∷ name type_no_bounds ∷ []) ∷ holding Parenthesis inputs ∷ []) ∷ []) ∷ never (name less) ∷ []) ∷
    [])
stands inputs = one_of (sign (codes "..") ∷ name types ∷ [])
stands less = one_of (sign (codes "<") ∷ all_of (ahead (one_of (sign (codes "<<") ∷ sign (codes "<-") ∷ [])) ∷ front (codes "<") ∷ []) ∷ [])
stands generic_arguments =
    all_of (name less ∷ maybe (all_of (name generic_argument ∷ many (all_of (sign (codes ",") ∷ name generic_argument ∷ [])) ∷ maybe (sign (codes ",")) ∷
    [])) ∷ front (codes ">") ∷ [])
stands generic_argument =
    one_of (all_of (lifetime ∷ ahead (name generic_argument_end) ∷ []) ∷ all_of (one_of (all_of (name type_path_segment ∷ one_of (all_of (sign (codes "=") ∷
    name generic_argument_value ∷ []) ∷ all_of (sign (codes ":") ∷ name bounds ∷ []) ∷ all_of (name more_type_path_segments ∷ name behind_type_path ∷ []) ∷
    []) ∷ []) ∷ opaque_holding generic_argument_value ∷ all_of (never (unit test.PathSegment) ∷ name type ∷ []) ∷ name const_argument ∷ []) ∷ ahead (name
    generic_argument_end) ∷ []) ∷ [])
stands generic_argument_end = one_of (sign (codes ",") ∷ front (codes ">") ∷ [])
stands generic_argument_value = one_of (opaque_holding generic_argument_value ∷ name type ∷ name const_argument ∷ [])
stands const_argument =
    one_of (all_of (maybe (word it.Const) ∷ holding Brace block ∷ []) ∷ all_of (maybe (sign (codes "-")) ∷ unit test.Literal ∷ []) ∷ unit test.TruthValue ∷
    opaque_holding const_argument ∷ [])
stands qualified_self = all_of (name less ∷ name any_type ∷ maybe (all_of (word it.As ∷ name type_path ∷ [])) ∷ front (codes ">") ∷ sign (codes "::") ∷ [])
stands expression_path =
    one_of (all_of (name qualified_self ∷ name expression_path_segments ∷ []) ∷ all_of (maybe (sign (codes "::")) ∷ name expression_path_segments ∷ []) ∷
    [])
stands expression_path_segments =
    all_of (name expression_path_segment ∷ many (all_of (sign (codes "::") ∷ name expression_path_segment ∷ [])) ∷ never (sign (codes "::")) ∷ [])
stands expression_path_segment =
    all_of (unit test.PathSegment ∷ maybe (one_of (all_of (sign (codes "::") ∷ name generic_arguments ∷ []) ∷ all_of (sign (codes "::") ∷ one_of (all_of
    (holding Parenthesis types ∷ sign (codes "->") ∷ name type_no_bounds ∷ []) ∷ holding Parenthesis inputs ∷ []) ∷ []) ∷ [])) ∷ [])
stands simple_path = all_of (maybe (sign (codes "::")) ∷ unit test.PathSegment ∷ many (all_of (sign (codes "::") ∷ unit test.PathSegment ∷ [])) ∷ [])
stands any_type =
    one_of (all_of (one_of (name modified_path ∷ name use_bound ∷ []) ∷ name more_bounds ∷ []) ∷ all_of (name generator_type ∷ never (front (codes "+")) ∷
    []) ∷ name type ∷ [])
stands type =
    one_of (all_of (name type_path ∷ name behind_type_path ∷ []) ∷ all_of (one_of (word it.Dyn ∷ word it.Impl ∷ []) ∷ one_of (name some_bounds ∷ all_of
    (never (name begins_bound) ∷ never (front (codes "+")) ∷ []) ∷ []) ∷ []) ∷ all_of (lifetime ∷ ahead (front (codes "+")) ∷ name more_bounds ∷ []) ∷
    all_of (one_of (all_of (holding Parenthesis bare_bound ∷ ahead (front (codes "+")) ∷ []) ∷ holding Parenthesis types ∷ []) ∷ name more_bounds ∷ []) ∷
    all_of (sign (codes "?") ∷ name type_path ∷ name more_bounds ∷ []) ∷ all_of (name for_lifetimes ∷ one_of (all_of (name function_type ∷ never (front
    (codes "+")) ∷ []) ∷ all_of (name type_path ∷ name more_bounds ∷ []) ∷ []) ∷ []) ∷ all_of (name qualified_self ∷ name type_path_segments ∷ never (front
    (codes "+")) ∷ []) ∷ all_of (name plain_type ∷ never (front (codes "+")) ∷ []) ∷ [])
stands behind_type_path =
    one_of (all_of (sign (codes "!") ∷ unit test.Delimited ∷ never (front (codes "+")) ∷ []) ∷ all_of (never (sign (codes "!")) ∷ name more_bounds ∷ []) ∷
    [])
stands type_no_bounds =
    one_of (all_of (name type_path ∷ one_of (all_of (sign (codes "!") ∷ unit test.Delimited ∷ []) ∷ never (sign (codes "!")) ∷ []) ∷ []) ∷ name plain_type ∷
    holding Parenthesis types ∷ all_of (one_of (word it.Dyn ∷ word it.Impl ∷ []) ∷ one_of (all_of (name bound ∷ never (front (codes "+")) ∷ []) ∷ never
    (name begins_bound) ∷ []) ∷ []) ∷ all_of (name qualified_self ∷ name type_path_segments ∷ []) ∷ all_of (name for_lifetimes ∷ one_of (name function_type
    ∷ name type_path ∷ []) ∷ []) ∷ all_of (sign (codes "?") ∷ name type_path ∷ []) ∷ name modified_path ∷ name use_bound ∷ name generator_type ∷ all_of
    (lifetime ∷ ahead (front (codes "+")) ∷ []) ∷ [])
stands types = many (all_of (name any_type ∷ one_of (sign (codes ",") ∷ at_end ∷ []) ∷ []))
stands more_bounds = all_of (many (all_of (front (codes "+") ∷ name bound ∷ [])) ∷ maybe (front (codes "+")) ∷ never (front (codes "+")) ∷ [])
stands bare_bound =
    one_of (all_of (maybe (one_of (name for_lifetimes ∷ sign (codes "?") ∷ [])) ∷ name type_path ∷ []) ∷ name modified_path ∷ name use_bound ∷
    opaque_holding type ∷ [])
stands modified_path =
    all_of (one_of (all_of (sign (codes "~") ∷ word it.Const ∷ maybe (word it.Async) ∷ []) ∷ word it.Const ∷ word it.Async ∷ []) ∷ name type_path ∷ [])
stands plain_type =
    one_of (sign (codes "!") ∷ name pointer_type ∷ holding Bracket array_type ∷ word it.Underscore ∷ name reference_type ∷ name binder_type ∷ name
    function_type ∷ opaque_holding type ∷ [])
stands pointer_type = all_of (sign (codes "*") ∷ one_of (word it.Const ∷ word it.Mut ∷ []) ∷ name type_no_bounds ∷ [])
stands array_type = all_of (name any_type ∷ maybe (all_of (sign (codes ";") ∷ name expression ∷ [])) ∷ [])
stands reference_type = all_of (front (codes "&") ∷ maybe lifetime ∷ maybe (word it.Mut) ∷ name type_no_bounds ∷ [])
stands binder_type = all_of (word it.Unsafe ∷ name generic_parameters ∷ name any_type ∷ [])
stands function_type =
    all_of (maybe (word it.Unsafe) ∷ maybe (all_of (word it.Extern ∷ maybe (unit test.Text) ∷ [])) ∷ word it.Fn ∷ holding Parenthesis maybe_named_parameters
    ∷ maybe (all_of (sign (codes "->") ∷ name type_no_bounds ∷ [])) ∷ [])
stands generator_type = all_of (maybe (word it.Async) ∷ word it.Gen ∷ name function_type ∷ [])
stands maybe_named_parameters =
    all_of (maybe (all_of (many (name attribute) ∷ name self_parameter ∷ one_of (sign (codes ",") ∷ at_end ∷ []) ∷ [])) ∷ many (all_of (name
    maybe_named_parameter ∷ one_of (sign (codes ",") ∷ at_end ∷ []) ∷ [])) ∷ [])
stands maybe_named_parameter =
    all_of (many (name attribute) ∷ never (name self_parameter) ∷ maybe (all_of (one_of (all_of (word it.Mut ∷ unit test.Name ∷ []) ∷ all_of (maybe (one_of
    (sign (codes "&") ∷ sign (codes "&&") ∷ [])) ∷ one_of (unit test.PathSegment ∷ unit test.TruthValue ∷ word it.Underscore ∷ []) ∷ []) ∷ []) ∷ sign (codes
    ":") ∷ [])) ∷ one_of (sign (codes "...") ∷ name any_type ∷ []) ∷ [])
stands bounds = maybe (name some_bounds)
stands some_bounds = all_of (name bound ∷ many (all_of (front (codes "+") ∷ name bound ∷ [])) ∷ maybe (front (codes "+")) ∷ never (front (codes "+")) ∷ [])
stands bound = one_of (lifetime ∷ holding Parenthesis trait_bound ∷ name use_bound ∷ name trait_bound ∷ [])
stands trait_bound =
    one_of (all_of (one_of (sign (codes "?") ∷ sign (codes "!") ∷ []) ∷ name type_path ∷ []) ∷ all_of (maybe (name for_lifetimes) ∷ maybe (one_of (all_of
    (sign (codes "~") ∷ word it.Const ∷ []) ∷ holding Bracket maybe_const ∷ word it.Const ∷ [])) ∷ maybe (word it.Async) ∷ name type_path ∷ []) ∷ [])
stands use_bound =
    all_of (word it.Use ∷ front (codes "<") ∷ maybe (all_of (name use_argument ∷ many (all_of (sign (codes ",") ∷ name use_argument ∷ [])) ∷ maybe (sign
    (codes ",")) ∷ [])) ∷ front (codes ">") ∷ [])
stands maybe_const = word it.Const
stands begins_bound =
    one_of (lifetime ∷ subtree Parenthesis ∷ subtree Bracket ∷ word it.Use ∷ word it.For ∷ sign (codes "~") ∷ word it.Const ∷ word it.Async ∷ sign (codes
    "?") ∷ sign (codes "!") ∷ unit test.PathSegment ∷ sign (codes "::") ∷ sign (codes "<") ∷ sign (codes "<<") ∷ [])
stands for_lifetimes = all_of (word it.For ∷ name generic_parameters ∷ [])
stands lifetime_parameter =
    all_of (lifetime ∷ maybe (all_of (sign (codes ":") ∷ many (all_of (lifetime ∷ front (codes "+") ∷ [])) ∷ maybe lifetime ∷ [])) ∷ [])
stands use_argument = one_of (lifetime ∷ unit test.Name ∷ word it.SelfType ∷ [])
stands pattern_fragment = all_of (never (one_of (sign (codes "..=") ∷ sign (codes "!") ∷ [])) ∷ name pattern ∷ [])
stands pattern_param_fragment = all_of (never (one_of (sign (codes "..=") ∷ sign (codes "!") ∷ [])) ∷ name pattern_no_top_alt ∷ [])
stands pattern =
    all_of (maybe (front (codes "|")) ∷ name pattern_no_top_alt ∷ many (all_of (front (codes "|") ∷ never (front (codes "|")) ∷ name pattern_no_top_alt ∷
    [])) ∷ never (one_of (sign (codes "|") ∷ sign (codes "||") ∷ sign (codes "@") ∷ [])) ∷ [])
stands pattern_no_top_alt =
    one_of (all_of (sign (codes "..=") ∷ name range_end ∷ []) ∷ all_of (sign (codes "..") ∷ maybe (name range_end) ∷ []) ∷ all_of (maybe (sign (codes "-"))
    ∷ one_of (unit test.Literal ∷ unit test.TruthValue ∷ []) ∷ maybe (name range_tail) ∷ []) ∷ name reference_pattern ∷ word it.Underscore ∷ sign (codes
    "!") ∷ name identifier_pattern ∷ holding Parenthesis patterns ∷ holding Bracket patterns ∷ all_of (opaque_holding range_end ∷ name range_tail ∷ []) ∷
    opaque_holding pattern ∷ all_of (word it.Box ∷ name pattern_without_range ∷ []) ∷ all_of (name qualified_self ∷ name expression_path_segments ∷ one_of
    (name range_tail ∷ name fields ∷ []) ∷ []) ∷ all_of (maybe (sign (codes "::")) ∷ name expression_path_segments ∷ one_of (all_of (sign (codes "!") ∷ unit
    test.Delimited ∷ []) ∷ name range_tail ∷ name fields ∷ []) ∷ []) ∷ [])
stands pattern_without_range =
    one_of (all_of (maybe (sign (codes "-")) ∷ one_of (unit test.Literal ∷ unit test.TruthValue ∷ []) ∷ name old_range_tail ∷ []) ∷ name reference_pattern ∷
    word it.Underscore ∷ sign (codes "!") ∷ name identifier_pattern ∷ holding Parenthesis patterns ∷ holding Bracket patterns ∷ all_of (opaque_holding
    range_end ∷ sign (codes "...") ∷ name range_end ∷ []) ∷ all_of (opaque_holding pattern ∷ never (name range_operator) ∷ []) ∷ all_of (word it.Box ∷ name
    pattern_without_range ∷ []) ∷ all_of (name qualified_self ∷ name expression_path_segments ∷ one_of (holding Parenthesis patterns ∷ holding Brace
    struct_pattern_elements ∷ name old_range_tail ∷ []) ∷ []) ∷ all_of (maybe (sign (codes "::")) ∷ name expression_path_segments ∷ one_of (all_of (sign
    (codes "!") ∷ unit test.Delimited ∷ []) ∷ holding Parenthesis patterns ∷ holding Brace struct_pattern_elements ∷ name old_range_tail ∷ []) ∷ []) ∷
    all_of (sign (codes "..") ∷ never (one_of (sign (codes "-") ∷ unit test.Literal ∷ unit test.Opaque ∷ unit test.Name ∷ sign (codes "<") ∷ sign (codes
    "<<") ∷ sign (codes "::") ∷ [])) ∷ []) ∷ [])
stands patterns = many (all_of (name pattern ∷ maybe (all_of (word it.If ∷ name expression ∷ [])) ∷ one_of (sign (codes ",") ∷ at_end ∷ []) ∷ []))
stands range_tail =
    one_of (all_of (one_of (sign (codes "..=") ∷ sign (codes "...") ∷ []) ∷ name range_end ∷ []) ∷ all_of (sign (codes "..") ∷ maybe (name range_end) ∷ [])
    ∷ [])
stands old_range_tail = one_of (all_of (sign (codes "...") ∷ name range_end ∷ []) ∷ never (name range_operator) ∷ [])
stands range_operator = one_of (sign (codes "..=") ∷ sign (codes "...") ∷ sign (codes "..") ∷ [])
stands range_end =
    one_of (all_of (maybe (sign (codes "-")) ∷ one_of (unit test.Literal ∷ unit test.TruthValue ∷ []) ∷ []) ∷ name expression_path ∷ opaque_holding
    range_end ∷ [])
stands fields = maybe (one_of (holding Parenthesis patterns ∷ holding Brace struct_pattern_elements ∷ []))
stands struct_pattern_elements =
    all_of (many (all_of (name struct_pattern_field ∷ one_of (sign (codes ",") ∷ at_end ∷ []) ∷ [])) ∷ maybe (all_of (many (name attribute) ∷ sign (codes
    "..") ∷ [])) ∷ [])
stands struct_pattern_field =
    all_of (many (name attribute) ∷ one_of (all_of (name field_name ∷ sign (codes ":") ∷ name pattern ∷ maybe (all_of (word it.If ∷ name expression ∷ [])) ∷
    []) ∷ name field_pattern ∷ []) ∷ [])
stands field_pattern =
    all_of (maybe (word it.Box) ∷ maybe (word it.Mut) ∷ maybe (all_of (word it.Ref ∷ maybe (word it.Mut) ∷ [])) ∷ one_of (unit test.Name ∷ unit test.Number
    ∷ []) ∷ [])
stands field_name = one_of (unit test.Name ∷ unit test.Number ∷ [])
stands reference_pattern = all_of (front (codes "&") ∷ maybe (word it.Mut) ∷ name pattern_without_range ∷ [])
stands identifier_pattern =
    one_of (all_of (word it.Ref ∷ maybe (word it.Mut) ∷ unit test.Name ∷ maybe (name binding) ∷ []) ∷ all_of (word it.Mut ∷ maybe (all_of (word it.Ref ∷
    maybe (word it.Mut) ∷ [])) ∷ unit test.Name ∷ never (one_of (sign (codes "::") ∷ subtree Parenthesis ∷ subtree Brace ∷ [])) ∷ maybe (name binding) ∷ [])
    ∷ all_of (unit test.Name ∷ never (one_of (sign (codes "::") ∷ all_of (sign (codes "!") ∷ unit test.Delimited ∷ []) ∷ subtree Parenthesis ∷ subtree Brace
    ∷ name range_operator ∷ [])) ∷ maybe (name binding) ∷ []) ∷ [])
stands binding = all_of (sign (codes "@") ∷ name pattern_no_top_alt ∷ [])
stands expression_2021_fragment = all_of (never (one_of (word it.Underscore ∷ word it.Const ∷ [])) ∷ name expression ∷ [])
stands expression = one_of (name range ∷ all_of (name operation ∷ name behind_operation ∷ []) ∷ [])
stands expression_before_block = one_of (name range_before_block ∷ all_of (name operation_before_block ∷ name behind_operation_before_block ∷ []) ∷ [])
stands behind_operation =
    all_of (many (all_of (unit test.AssignmentOperator ∷ name expression ∷ [])) ∷ never (unit test.AssignmentOperator) ∷ one_of (name range ∷ never (name
    range_operator) ∷ []) ∷ [])
stands behind_operation_before_block =
    all_of (many (all_of (unit test.AssignmentOperator ∷ name expression_before_block ∷ [])) ∷ never (unit test.AssignmentOperator) ∷ one_of (name
    range_before_block ∷ never (name range_operator) ∷ []) ∷ [])
stands range =
    one_of (all_of (sign (codes "..=") ∷ never (word it.Underscore) ∷ one_of (name range ∷ name operation ∷ []) ∷ []) ∷ all_of (sign (codes "..") ∷ one_of
    (all_of (ahead (name begins) ∷ one_of (name range ∷ name operation ∷ []) ∷ []) ∷ never (name begins) ∷ []) ∷ []) ∷ [])
stands range_before_block =
    one_of (all_of (sign (codes "..=") ∷ never (one_of (subtree Brace ∷ word it.Underscore ∷ [])) ∷ one_of (name range_before_block ∷ name
    operation_before_block ∷ []) ∷ []) ∷ all_of (sign (codes "..") ∷ one_of (all_of (ahead (unit test.BeginsExpression) ∷ one_of (name range_before_block ∷
    name operation_before_block ∷ []) ∷ []) ∷ never (unit test.BeginsExpression) ∷ []) ∷ []) ∷ [])
stands operation =
    all_of (many (name attribute) ∷ name unary ∷ many (one_of (all_of (unit test.BinaryOperator ∷ name operand ∷ []) ∷ all_of (word it.As ∷ name
    type_no_bounds ∷ []) ∷ [])) ∷ never (unit test.BinaryOperator) ∷ never (word it.As) ∷ [])
stands operation_before_block =
    all_of (many (name attribute) ∷ name unary_before_block ∷ many (one_of (all_of (unit test.BinaryOperator ∷ name operand_before_block ∷ []) ∷ all_of
    (word it.As ∷ name type_no_bounds ∷ []) ∷ [])) ∷ never (unit test.BinaryOperator) ∷ never (word it.As) ∷ [])
stands operand = one_of (name range ∷ all_of (many (name attribute) ∷ name unary ∷ []) ∷ [])
stands operand_before_block = one_of (name range_before_block ∷ all_of (many (name attribute) ∷ name unary_before_block ∷ []) ∷ [])
stands unary =
    one_of (all_of (ahead (unit test.PathSegment) ∷ name primary ∷ many (name postfix) ∷ never (name bad_postfix) ∷ []) ∷ all_of (never (unit
    test.PathSegment) ∷ one_of (all_of (name unary_operator ∷ one_of (name range ∷ all_of (many (name attribute) ∷ name unary ∷ []) ∷ []) ∷ []) ∷ all_of
    (one_of (name closure ∷ name jump ∷ name primary ∷ []) ∷ many (name postfix) ∷ never (name bad_postfix) ∷ []) ∷ []) ∷ []) ∷ [])
stands unary_before_block =
    one_of (all_of (ahead (unit test.PathSegment) ∷ name primary_before_block ∷ many (name postfix) ∷ never (name bad_postfix) ∷ []) ∷ all_of (never (unit
    test.PathSegment) ∷ one_of (all_of (name unary_operator ∷ one_of (name range_before_block ∷ all_of (many (name attribute) ∷ name unary_before_block ∷
    []) ∷ []) ∷ []) ∷ all_of (one_of (name closure_before_block ∷ name jump_before_block ∷ name primary_before_block ∷ []) ∷ many (name postfix) ∷ never
    (name bad_postfix) ∷ []) ∷ []) ∷ []) ∷ [])
stands unary_operator =
    one_of (sign (codes "-") ∷ sign (codes "!") ∷ sign (codes "*") ∷ all_of (front (codes "&") ∷ maybe (one_of (all_of (word it.Raw ∷ one_of (word it.Const
    ∷ word it.Mut ∷ []) ∷ []) ∷ word it.Mut ∷ [])) ∷ []) ∷ [])
stands postfix =
    one_of (sign (codes "?") ∷ holding Parenthesis expressions ∷ holding Bracket expression ∷ all_of (sign (codes ".") ∷ one_of (all_of (one_of (word
    it.Await ∷ word it.Use ∷ []) ∷ maybe (holding Parenthesis some_expressions) ∷ []) ∷ word it.Yield ∷ all_of (word it.Match ∷ holding Brace match_arms ∷
    []) ∷ all_of (unit test.PathSegment ∷ one_of (all_of (sign (codes "::") ∷ name generic_arguments ∷ holding Parenthesis expressions ∷ []) ∷ never (all_of
    (sign (codes "::") ∷ one_of (name less ∷ subtree Parenthesis ∷ []) ∷ [])) ∷ []) ∷ []) ∷ unit test.Number ∷ []) ∷ []) ∷ [])
stands bad_postfix = one_of (sign (codes ".") ∷ sign (codes "<-") ∷ [])
stands closure =
    all_of (name closure_head ∷ one_of (all_of (sign (codes "->") ∷ name type_no_bounds ∷ holding Brace statements ∷ []) ∷ all_of (never (sign (codes "->"))
    ∷ name expression ∷ []) ∷ []) ∷ [])
stands closure_before_block =
    all_of (name closure_head ∷ one_of (all_of (sign (codes "->") ∷ name type_no_bounds ∷ holding Brace statements ∷ []) ∷ all_of (never (sign (codes "->"))
    ∷ name expression_before_block ∷ []) ∷ []) ∷ [])
stands closure_head =
    all_of (maybe (name for_lifetimes) ∷ maybe (all_of (word it.Const ∷ ahead (one_of (word it.Static ∷ word it.Move ∷ sign (codes "||") ∷ front (codes "|")
    ∷ [])) ∷ [])) ∷ maybe (word it.Static) ∷ maybe (word it.Async) ∷ maybe (word it.Move) ∷ one_of (sign (codes "||") ∷ all_of (front (codes "|") ∷ maybe
    (all_of (name closure_parameter ∷ many (all_of (sign (codes ",") ∷ name closure_parameter ∷ [])) ∷ maybe (sign (codes ",")) ∷ [])) ∷ front (codes "|") ∷
    []) ∷ []) ∷ [])
stands closure_parameter = all_of (many (name attribute) ∷ name pattern_no_top_alt ∷ maybe (all_of (sign (codes ":") ∷ name any_type ∷ [])) ∷ [])
stands jump =
    one_of (all_of (one_of (word it.Return ∷ word it.Yield ∷ all_of (word it.Do ∷ word it.Yeet ∷ []) ∷ all_of (word it.Break ∷ maybe lifetime ∷ []) ∷ []) ∷
    one_of (all_of (ahead (name begins) ∷ name expression ∷ []) ∷ never (name begins) ∷ []) ∷ []) ∷ all_of (word it.Continue ∷ maybe lifetime ∷ []) ∷ [])
stands jump_before_block =
    one_of (all_of (one_of (word it.Return ∷ word it.Yield ∷ all_of (word it.Do ∷ word it.Yeet ∷ []) ∷ []) ∷ one_of (all_of (ahead (name begins) ∷ name
    expression ∷ []) ∷ never (name begins) ∷ []) ∷ []) ∷ all_of (word it.Break ∷ maybe lifetime ∷ one_of (all_of (ahead (unit test.BeginsExpression) ∷ name
    expression ∷ []) ∷ never (unit test.BeginsExpression) ∷ []) ∷ []) ∷ all_of (word it.Continue ∷ maybe lifetime ∷ []) ∷ [])
stands primary =
    one_of (name variable ∷ all_of (maybe (sign (codes "::")) ∷ name expression_path_segments ∷ one_of (all_of (sign (codes "!") ∷ unit test.Delimited ∷ [])
    ∷ all_of (never (sign (codes "!")) ∷ maybe (holding Brace struct_expression_fields) ∷ []) ∷ []) ∷ []) ∷ name basic ∷ all_of (name qualified_self ∷ name
    expression_path_segments ∷ never (sign (codes "!")) ∷ maybe (holding Brace struct_expression_fields) ∷ []) ∷ [])
stands primary_before_block =
    one_of (name variable_before_block ∷ all_of (maybe (sign (codes "::")) ∷ name expression_path_segments ∷ one_of (all_of (sign (codes "!") ∷ unit
    test.Delimited ∷ []) ∷ never (sign (codes "!")) ∷ []) ∷ []) ∷ name basic ∷ all_of (name qualified_self ∷ name expression_path_segments ∷ never (sign
    (codes "!")) ∷ []) ∷ [])
stands variable = all_of (unit test.PathSegment ∷ never (one_of (sign (codes "::") ∷ sign (codes "!") ∷ subtree Brace ∷ [])) ∷ [])
stands variable_before_block = all_of (unit test.PathSegment ∷ never (one_of (sign (codes "::") ∷ sign (codes "!") ∷ [])) ∷ [])
stands expressions = many (all_of (name expression ∷ one_of (sign (codes ",") ∷ at_end ∷ []) ∷ []))
stands some_expressions = all_of (never at_end ∷ name expressions ∷ [])
stands array_elements =
    maybe (all_of (name expression ∷ one_of (all_of (sign (codes ";") ∷ name expression ∷ []) ∷ all_of (sign (codes ",") ∷ name expressions ∷ []) ∷ at_end ∷
    []) ∷ []))
stands struct_expression_fields =
    all_of (many (all_of (name struct_expression_field ∷ one_of (sign (codes ",") ∷ at_end ∷ []) ∷ [])) ∷ maybe (all_of (sign (codes "..") ∷ maybe (name
    expression) ∷ [])) ∷ [])
stands struct_expression_field =
    all_of (many (name attribute) ∷ one_of (all_of (name field_name ∷ sign (codes ":") ∷ name expression ∷ []) ∷ name field_value ∷ []) ∷ [])
stands field_value = unit test.Name
stands basic =
    one_of (unit test.Literal ∷ unit test.TruthValue ∷ holding Parenthesis expressions ∷ holding Bracket array_elements ∷ holding Brace block ∷
    opaque_holding expression ∷ word it.Underscore ∷ name block_like ∷ [])
stands block_like =
    one_of (all_of (word it.Try ∷ holding Brace block ∷ []) ∷ all_of (word it.If ∷ name conditions ∷ holding Brace statements ∷ maybe (all_of (word it.Else
    ∷ one_of (holding Brace statements ∷ all_of (ahead (word it.If) ∷ name block_like ∷ []) ∷ []) ∷ [])) ∷ never (word it.Else) ∷ []) ∷ all_of (word
    it.Match ∷ name expression_before_block ∷ holding Brace match_arms ∷ []) ∷ all_of (word it.Unsafe ∷ holding Brace block ∷ []) ∷ all_of (one_of (all_of
    (maybe (word it.Async) ∷ word it.Gen ∷ []) ∷ word it.Async ∷ []) ∷ maybe (word it.Move) ∷ holding Brace block ∷ []) ∷ all_of (word it.Const ∷ holding
    Brace block ∷ []) ∷ name loop ∷ all_of (name label ∷ one_of (name loop ∷ holding Brace block ∷ []) ∷ []) ∷ [])
stands label = all_of (lifetime ∷ sign (codes ":") ∷ [])
stands loop =
    one_of (all_of (word it.Loop ∷ holding Brace block ∷ []) ∷ all_of (word it.While ∷ name conditions ∷ holding Brace block ∷ []) ∷ all_of (word it.For ∷
    maybe (word it.Await) ∷ name pattern ∷ word it.In ∷ name expression_before_block ∷ holding Brace block ∷ []) ∷ [])
stands conditions =
    one_of (name range_before_block ∷ name let_chain ∷ all_of (many (name attribute) ∷ name unary_before_block ∷ many (one_of (all_of (never (sign (codes
    "||")) ∷ unit test.BinaryOperator ∷ never (word it.Let) ∷ name operand_before_block ∷ []) ∷ all_of (word it.As ∷ name type_no_bounds ∷ []) ∷ [])) ∷
    one_of (all_of (sign (codes "&&") ∷ name let_chain ∷ []) ∷ all_of (maybe (all_of (sign (codes "||") ∷ name operand_before_block ∷ many (one_of (all_of
    (unit test.BinaryOperator ∷ name operand_before_block ∷ []) ∷ all_of (word it.As ∷ name type_no_bounds ∷ []) ∷ [])) ∷ [])) ∷ never (unit
    test.BinaryOperator) ∷ never (word it.As) ∷ name behind_operation_before_block ∷ []) ∷ []) ∷ []) ∷ [])
stands let_chain =
    all_of (name let_condition ∷ many (all_of (sign (codes "&&") ∷ one_of (name let_condition ∷ name let_value ∷ []) ∷ [])) ∷ never (name lazy_operator) ∷
    [])
stands let_condition = all_of (word it.Let ∷ name pattern ∷ sign (codes "=") ∷ name let_value ∷ [])
stands let_value =
    one_of (name range_before_block ∷ all_of (many (name attribute) ∷ name unary_before_block ∷ many (one_of (all_of (never (name lazy_operator) ∷ unit
    test.BinaryOperator ∷ name operand_before_block ∷ []) ∷ all_of (word it.As ∷ name type_no_bounds ∷ []) ∷ [])) ∷ never (all_of (never (name
    lazy_operator) ∷ unit test.BinaryOperator ∷ [])) ∷ never (word it.As) ∷ []) ∷ [])
stands match_arms = all_of (many (name inner_attribute) ∷ many (name match_arm) ∷ [])
stands match_arm =
    all_of (many (name attribute) ∷ name pattern ∷ one_of (all_of (word it.If ∷ name guard ∷ one_of (name arm_body ∷ sign (codes ",") ∷ at_end ∷ []) ∷ []) ∷
    name arm_body ∷ at_end ∷ []) ∷ [])
stands arm_body =
    all_of (sign (codes "=>") ∷ one_of (all_of (many (name attribute) ∷ name expression_with_block ∷ maybe (sign (codes ",")) ∷ []) ∷ all_of (name
    expression ∷ one_of (sign (codes ",") ∷ at_end ∷ []) ∷ []) ∷ []) ∷ [])
stands guard =
    one_of (name range ∷ name guard_chain ∷ all_of (many (name attribute) ∷ name unary ∷ many (one_of (all_of (never (sign (codes "||")) ∷ unit
    test.BinaryOperator ∷ never (word it.Let) ∷ name operand ∷ []) ∷ all_of (word it.As ∷ name type_no_bounds ∷ []) ∷ [])) ∷ one_of (all_of (sign (codes
    "&&") ∷ name guard_chain ∷ []) ∷ all_of (maybe (all_of (sign (codes "||") ∷ name operand ∷ many (one_of (all_of (unit test.BinaryOperator ∷ name operand
    ∷ []) ∷ all_of (word it.As ∷ name type_no_bounds ∷ []) ∷ [])) ∷ [])) ∷ never (unit test.BinaryOperator) ∷ never (word it.As) ∷ name behind_operation ∷
    []) ∷ []) ∷ []) ∷ [])
stands guard_chain =
    all_of (name guard_condition ∷ many (all_of (sign (codes "&&") ∷ one_of (name guard_condition ∷ name guard_value ∷ []) ∷ [])) ∷ never (name
    lazy_operator) ∷ [])
stands guard_condition = all_of (word it.Let ∷ name pattern ∷ sign (codes "=") ∷ name guard_value ∷ [])
stands guard_value =
    one_of (name range ∷ all_of (many (name attribute) ∷ name unary ∷ many (one_of (all_of (never (name lazy_operator) ∷ unit test.BinaryOperator ∷ name
    operand ∷ []) ∷ all_of (word it.As ∷ name type_no_bounds ∷ []) ∷ [])) ∷ never (all_of (never (name lazy_operator) ∷ unit test.BinaryOperator ∷ [])) ∷
    never (word it.As) ∷ []) ∷ [])
stands expression_with_block =
    all_of (one_of (holding Brace block ∷ all_of (never (one_of (word it.Async ∷ word it.Gen ∷ [])) ∷ name block_like ∷ []) ∷ []) ∷ never (one_of (sign
    (codes ".") ∷ sign (codes "?") ∷ [])) ∷ [])
stands lazy_operator = one_of (sign (codes "&&") ∷ sign (codes "||") ∷ [])
stands begins = one_of (subtree Brace ∷ unit test.BeginsExpression ∷ [])
stands inner_attribute = all_of (sign (codes "#") ∷ sign (codes "!") ∷ holding Bracket meta ∷ [])
stands attribute = all_of (sign (codes "#") ∷ holding Bracket meta ∷ [])
stands meta = one_of (all_of (word it.Unsafe ∷ holding Parenthesis plain_meta ∷ []) ∷ name plain_meta ∷ [])
stands plain_meta = all_of (name simple_path ∷ maybe (one_of (unit test.Delimited ∷ all_of (sign (codes "=") ∷ name expression ∷ []) ∷ [])) ∷ [])
stands visibility = one_of (all_of (word it.Pub ∷ maybe (holding Parenthesis visibility_place) ∷ []) ∷ nothing ∷ [])
stands visibility_place = one_of (word it.Crate ∷ word it.SelfValue ∷ word it.Super ∷ all_of (word it.In ∷ name simple_path ∷ []) ∷ [])
stands block = all_of (many (name inner_attribute) ∷ name statements ∷ [])
stands statements =
    many (one_of (sign (codes ";") ∷ name macro_rules_item ∷ all_of (many (name attribute) ∷ one_of (all_of (name let_statement ∷ sign (codes ";") ∷ []) ∷
    name closed_statement ∷ []) ∷ []) ∷ all_of (name expression ∷ one_of (sign (codes ";") ∷ at_end ∷ []) ∷ []) ∷ []))
stands statement =
    one_of (sign (codes ";") ∷ name macro_rules_item ∷ all_of (many (name attribute) ∷ one_of (name let_statement ∷ name closed_statement ∷ []) ∷ []) ∷ name
    expression ∷ [])
stands let_statement =
    all_of (maybe (word it.Super) ∷ word it.Let ∷ name pattern_no_top_alt ∷ never (one_of (sign (codes "|") ∷ sign (codes "||") ∷ sign (codes "@") ∷ [])) ∷
    maybe (all_of (sign (codes ":") ∷ name any_type ∷ [])) ∷ maybe (all_of (sign (codes "=") ∷ name expression ∷ maybe (all_of (word it.Else ∷ holding Brace
    statements ∷ [])) ∷ [])) ∷ [])
stands closed_statement =
    one_of (all_of (never (one_of (word it.Default ∷ word it.Safe ∷ [])) ∷ name declaration ∷ []) ∷ name expression_with_block ∷ all_of (maybe (sign (codes
    "::")) ∷ name expression_path_segments ∷ sign (codes "!") ∷ subtree Brace ∷ never (one_of (sign (codes ".") ∷ sign (codes "?") ∷ [])) ∷ []) ∷ [])
stands items = all_of (many (name inner_attribute) ∷ many (name item) ∷ [])
stands item =
    one_of (name macro_rules_item ∷ all_of (many (name attribute) ∷ one_of (name declaration ∷ name macro_item ∷ all_of (name visibility ∷ word it.Const ∷
    holding Brace statements ∷ []) ∷ []) ∷ []) ∷ [])
stands declaration =
    all_of (name visibility ∷ one_of (all_of (word it.Default ∷ one_of (name function ∷ name constant_item ∷ name type_alias ∷ name trait_implementation ∷
    []) ∷ []) ∷ name item_kind ∷ []) ∷ [])
stands item_kind =
    one_of (name function ∷ name use_declaration ∷ name extern_crate ∷ name static_item ∷ name constant_item ∷ name module_item ∷ name extern_block ∷ name
    type_alias ∷ name structure ∷ name enumeration ∷ name union ∷ name trait ∷ name implementation ∷ name macro_definition ∷ [])
stands macro_item = all_of (name simple_path ∷ sign (codes "!") ∷ one_of (subtree Brace ∷ all_of (unit test.Delimited ∷ sign (codes ";") ∷ []) ∷ []) ∷ [])
stands macro_rules_item = all_of (many (name attribute) ∷ name macro_rules ∷ [])
stands macro_rules =
    all_of (word it.MacroRules ∷ sign (codes "!") ∷ unit test.Name ∷ one_of (subtree Brace ∷ all_of (unit test.Delimited ∷ sign (codes ";") ∷ []) ∷ []) ∷
    [])
stands macro_definition = all_of (word it.Macro ∷ unit test.Name ∷ maybe (subtree Parenthesis) ∷ subtree Brace ∷ [])
stands use_declaration = all_of (word it.Use ∷ name use_tree ∷ sign (codes ";") ∷ [])
stands use_trees = many (all_of (name use_tree ∷ one_of (sign (codes ",") ∷ at_end ∷ []) ∷ []))
stands use_tree =
    all_of (maybe (sign (codes "::")) ∷ one_of (holding Brace use_trees ∷ sign (codes "*") ∷ all_of (unit test.PathSegment ∷ many (all_of (sign (codes "::")
    ∷ unit test.PathSegment ∷ [])) ∷ maybe (one_of (all_of (sign (codes "::") ∷ one_of (holding Brace use_trees ∷ sign (codes "*") ∷ []) ∷ []) ∷ name rename
    ∷ [])) ∷ []) ∷ []) ∷ [])
stands extern_crate =
    all_of (word it.Extern ∷ word it.Crate ∷ one_of (unit test.Name ∷ word it.SelfValue ∷ []) ∷ maybe (name rename) ∷ sign (codes ";") ∷ [])
stands rename = all_of (word it.As ∷ one_of (unit test.Name ∷ word it.Underscore ∷ []) ∷ [])
stands static_item =
    all_of (maybe (one_of (word it.Unsafe ∷ word it.Safe ∷ [])) ∷ word it.Static ∷ maybe (word it.Mut) ∷ unit test.Name ∷ sign (codes ":") ∷ name any_type ∷
    maybe (all_of (sign (codes "=") ∷ name expression ∷ [])) ∷ sign (codes ";") ∷ [])
stands constant_item =
    all_of (maybe (word it.Type) ∷ word it.Const ∷ one_of (unit test.Name ∷ word it.Underscore ∷ []) ∷ maybe (name generic_parameters) ∷ sign (codes ":") ∷
    name any_type ∷ maybe (all_of (sign (codes "=") ∷ name expression ∷ [])) ∷ maybe (name where_clause) ∷ sign (codes ";") ∷ [])
stands function =
    all_of (name function_qualifiers ∷ word it.Fn ∷ unit test.Name ∷ maybe (name generic_parameters) ∷ holding Parenthesis function_parameters ∷ maybe
    (all_of (sign (codes "->") ∷ name any_type ∷ [])) ∷ maybe (name where_clause) ∷ one_of (holding Brace block ∷ sign (codes ";") ∷ []) ∷ [])
stands function_parameters =
    all_of (maybe (all_of (many (name attribute) ∷ name self_parameter ∷ one_of (sign (codes ",") ∷ at_end ∷ []) ∷ [])) ∷ many (all_of (name
    function_parameter ∷ one_of (sign (codes ",") ∷ at_end ∷ []) ∷ [])) ∷ [])
stands self_parameter =
    all_of (one_of (all_of (front (codes "&") ∷ maybe lifetime ∷ maybe (word it.Mut) ∷ word it.SelfValue ∷ []) ∷ all_of (maybe (word it.Mut) ∷ word
    it.SelfValue ∷ maybe (all_of (sign (codes ":") ∷ name any_type ∷ [])) ∷ []) ∷ []) ∷ never (sign (codes "::")) ∷ [])
stands function_parameter =
    all_of (many (name attribute) ∷ one_of (sign (codes "...") ∷ all_of (never (name self_parameter) ∷ name pattern_no_top_alt ∷ sign (codes ":") ∷ one_of
    (sign (codes "...") ∷ name any_type ∷ []) ∷ []) ∷ []) ∷ [])
stands function_qualifiers =
    all_of (maybe (word it.Const) ∷ maybe (word it.Async) ∷ maybe (word it.Gen) ∷ maybe (one_of (word it.Unsafe ∷ word it.Safe ∷ [])) ∷ maybe (all_of (word
    it.Extern ∷ maybe (unit test.Text) ∷ [])) ∷ [])
stands module_item = all_of (maybe (word it.Unsafe) ∷ word it.Mod ∷ unit test.Name ∷ one_of (holding Brace items ∷ sign (codes ";") ∷ []) ∷ [])
stands extern_block = all_of (maybe (word it.Unsafe) ∷ word it.Extern ∷ maybe (unit test.Text) ∷ holding Brace external_items ∷ [])
stands external_items = all_of (many (name inner_attribute) ∷ many (name external_item) ∷ [])
stands external_item =
    all_of (many (name attribute) ∷ one_of (all_of (name visibility ∷ one_of (name function ∷ name static_item ∷ name type_alias ∷ []) ∷ []) ∷ name
    macro_item ∷ []) ∷ [])
stands type_alias =
    all_of (word it.Type ∷ unit test.Name ∷ maybe (name generic_parameters) ∷ maybe (all_of (sign (codes ":") ∷ name bounds ∷ [])) ∷ maybe (name
    where_clause) ∷ maybe (all_of (sign (codes "=") ∷ name any_type ∷ maybe (name where_clause) ∷ [])) ∷ sign (codes ";") ∷ [])
stands structure =
    all_of (word it.Struct ∷ unit test.Name ∷ maybe (name generic_parameters) ∷ one_of (all_of (holding Parenthesis tuple_fields ∷ maybe (name where_clause)
    ∷ sign (codes ";") ∷ []) ∷ all_of (maybe (name where_clause) ∷ one_of (holding Brace struct_fields ∷ sign (codes ";") ∷ []) ∷ []) ∷ []) ∷ [])
stands struct_fields = many (all_of (name struct_field ∷ one_of (sign (codes ",") ∷ at_end ∷ []) ∷ []))
stands struct_field =
    all_of (many (name attribute) ∷ name visibility ∷ maybe (word it.Unsafe) ∷ unit test.Name ∷ sign (codes ":") ∷ name any_type ∷ maybe (all_of (sign
    (codes "=") ∷ name expression ∷ [])) ∷ [])
stands tuple_fields = many (all_of (name tuple_field ∷ one_of (sign (codes ",") ∷ at_end ∷ []) ∷ []))
stands tuple_field =
    all_of (many (name attribute) ∷ one_of (all_of (word it.Pub ∷ one_of (all_of (holding Parenthesis visibility_place ∷ never (one_of (sign (codes ",") ∷
    front (codes "+") ∷ sign (codes "=") ∷ at_end ∷ [])) ∷ name any_type ∷ []) ∷ all_of (holding Parenthesis types_behind_pub ∷ never (front (codes "+")) ∷
    []) ∷ name any_type ∷ []) ∷ []) ∷ name any_type ∷ []) ∷ maybe (all_of (sign (codes "=") ∷ name expression ∷ [])) ∷ [])
stands types_behind_pub = all_of (never (all_of (one_of (word it.Crate ∷ word it.SelfValue ∷ word it.Super ∷ []) ∷ at_end ∷ [])) ∷ name types ∷ [])
stands enumeration = all_of (word it.Enum ∷ unit test.Name ∷ maybe (name generic_parameters) ∷ maybe (name where_clause) ∷ holding Brace enum_variants ∷ [])
stands enum_variants = many (all_of (name enum_variant ∷ one_of (sign (codes ",") ∷ at_end ∷ []) ∷ []))
stands enum_variant =
    all_of (many (name attribute) ∷ name visibility ∷ unit test.Name ∷ maybe (one_of (holding Parenthesis tuple_fields ∷ holding Brace struct_fields ∷ []))
    ∷ maybe (all_of (sign (codes "=") ∷ name expression ∷ [])) ∷ [])
stands union = all_of (word it.Union ∷ unit test.Name ∷ maybe (name generic_parameters) ∷ maybe (name where_clause) ∷ holding Brace struct_fields ∷ [])
stands trait =
    all_of (maybe (word it.Const) ∷ maybe (word it.Unsafe) ∷ maybe (word it.Auto) ∷ word it.Trait ∷ unit test.Name ∷ maybe (name generic_parameters) ∷
    one_of (all_of (maybe (all_of (sign (codes ":") ∷ name bounds ∷ [])) ∷ maybe (name where_clause) ∷ holding Brace associated_items ∷ []) ∷ all_of (sign
    (codes "=") ∷ name bounds ∷ maybe (name where_clause) ∷ sign (codes ";") ∷ []) ∷ []) ∷ [])
stands implementation =
    one_of (name trait_implementation ∷ all_of (maybe (word it.Const) ∷ word it.Impl ∷ maybe (name generic_parameters) ∷ maybe (word it.Const) ∷ name type ∷
    maybe (name where_clause) ∷ holding Brace associated_items ∷ []) ∷ [])
stands trait_implementation =
    all_of (maybe (one_of (word it.Const ∷ word it.Unsafe ∷ [])) ∷ word it.Impl ∷ maybe (name generic_parameters) ∷ maybe (word it.Const) ∷ maybe (sign
    (codes "!")) ∷ name type_path ∷ word it.For ∷ one_of (sign (codes "..") ∷ name any_type ∷ []) ∷ maybe (name where_clause) ∷ holding Brace
    associated_items ∷ [])
stands associated_items = all_of (many (name inner_attribute) ∷ many (name associated_item) ∷ [])
stands associated_item =
    all_of (many (name attribute) ∷ one_of (all_of (name visibility ∷ maybe (word it.Default) ∷ one_of (name function ∷ name constant_item ∷ name type_alias
    ∷ []) ∷ []) ∷ name macro_item ∷ []) ∷ [])
stands generic_parameters =
    all_of (sign (codes "<") ∷ maybe (all_of (name generic_parameter ∷ many (all_of (sign (codes ",") ∷ name generic_parameter ∷ [])) ∷ maybe (sign (codes
    ",")) ∷ [])) ∷ front (codes ">") ∷ [])
stands generic_parameter =
    all_of (many (name attribute) ∷ one_of (name lifetime_parameter ∷ all_of (word it.Const ∷ unit test.Name ∷ sign (codes ":") ∷ name any_type ∷ maybe
    (all_of (sign (codes "=") ∷ one_of (name const_argument ∷ unit test.Name ∷ []) ∷ [])) ∷ []) ∷ all_of (unit test.Name ∷ maybe (all_of (sign (codes ":") ∷
    name bounds ∷ [])) ∷ maybe (all_of (sign (codes "=") ∷ name any_type ∷ [])) ∷ []) ∷ []) ∷ [])
stands where_clause =
    all_of (word it.Where ∷ never (all_of (name less ∷ one_of (unit test.Name ∷ word it.SelfType ∷ []) ∷ front (codes ">") ∷ [])) ∷ maybe (all_of (name
    where_predicate ∷ many (all_of (sign (codes ",") ∷ name where_predicate ∷ [])) ∷ maybe (sign (codes ",")) ∷ [])) ∷ [])
stands where_predicate =
    one_of (all_of (lifetime ∷ sign (codes ":") ∷ many (all_of (lifetime ∷ front (codes "+") ∷ [])) ∷ maybe lifetime ∷ []) ∷ all_of (maybe (name
    for_lifetimes) ∷ name type ∷ one_of (all_of (sign (codes ":") ∷ name bounds ∷ []) ∷ all_of (one_of (sign (codes "=") ∷ sign (codes "==") ∷ []) ∷ name
    any_type ∷ []) ∷ []) ∷ []) ∷ [])
stands tokens =
    many (one_of (name loose_macro_rules_item ∷ all_of (name simple_path ∷ sign (codes "!") ∷ unit test.Delimited ∷ []) ∷ holding Parenthesis tokens ∷
    holding Bracket tokens ∷ holding Brace tokens ∷ opaque_holding tokens ∷ unit test.Any ∷ []))
stands loose_macro_rules_item = all_of (many (all_of (sign (codes "#") ∷ subtree Bracket ∷ [])) ∷ name macro_rules ∷ [])
