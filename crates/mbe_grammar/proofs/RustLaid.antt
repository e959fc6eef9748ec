-- The table lays out the expression of each name of Rust's grammar. Made by checks/lay_out_grammar.py.
use Rattle.std.proofs.Common.{ℕ, refl}
use Rattle.mbe_grammar.specs.declared.rust.TheConstants.{RULES}
use Rattle.mbe_grammar.specs.Layout.{AreLaid}
use Rattle.mbe_grammar.specs.Names.{start, type_path, type_path_segments, more_type_path_segments, type_path_segment, inputs, less, generic_arguments, generic_argument, generic_argument_end, generic_argument_value, const_argument, qualified_self, expression_path, expression_path_segments, expression_path_segment, simple_path, any_type, type, behind_type_path, type_no_bounds, types, more_bounds, bare_bound, modified_path, plain_type, pointer_type, array_type, reference_type, binder_type, function_type, generator_type, maybe_named_parameters, maybe_named_parameter, bounds, some_bounds, bound, trait_bound, use_bound, maybe_const, begins_bound, for_lifetimes, lifetime_parameter, use_argument, pattern_fragment, pattern_param_fragment, pattern, pattern_no_top_alt, pattern_without_range, patterns, range_tail, old_range_tail, range_operator, range_end, fields, struct_pattern_elements, struct_pattern_field, field_pattern, field_name, reference_pattern, identifier_pattern, binding, expression_2021_fragment, expression, expression_before_block, behind_operation, behind_operation_before_block, range, range_before_block, operation, operation_before_block, operand, operand_before_block, unary, unary_before_block, unary_operator, postfix, bad_postfix, closure, closure_before_block, closure_head, closure_parameter, jump, jump_before_block, primary, primary_before_block, variable, variable_before_block, expressions, some_expressions, array_elements, struct_expression_fields, struct_expression_field, field_value, basic, block_like, label, loop, conditions, let_chain, let_condition, let_value, match_arms, match_arm, arm_body, guard, guard_chain, guard_condition, guard_value, expression_with_block, lazy_operator, begins, inner_attribute, attribute, meta, plain_meta, visibility, visibility_place, block, statements, statement, let_statement, closed_statement, items, item, declaration, item_kind, macro_item, macro_rules_item, macro_rules, macro_definition, use_declaration, use_trees, use_tree, extern_crate, rename, static_item, constant_item, function, function_parameters, self_parameter, function_parameter, function_qualifiers, module_item, extern_block, external_items, external_item, type_alias, structure, struct_fields, struct_field, tuple_fields, tuple_field, types_behind_pub, enumeration, enum_variants, enum_variant, union, trait, implementation, trait_implementation, associated_items, associated_item, generic_parameters, generic_parameter, where_clause, where_predicate, tokens, loose_macro_rules_item}
use Rattle.mbe_grammar.specs.Rust.{stands}

-- Two parts at their places.
both : {R : ℕ → ℕ → Type 0} {A B : ℕ → Type 0} (n m : ℕ) → R n m → A n → B m → (k : ℕ) × (l : ℕ) × R k l × A k × B l
both n m e a b = (n, m, e, a, b)

-- One part at its place.
one : {R A : ℕ → Type 0} (n : ℕ) → R n → A n → (k : ℕ) × R k × A k
one n e a = (n, e, a)

pub are_laid : AreLaid RULES start stands
are_laid type_path = one 1 refl (both 2 5 refl (both 3 4 refl refl refl) refl)
are_laid type_path_segments = one 6 refl (both 17 7 refl refl refl)
are_laid more_type_path_segments =
    one 8 refl (both 9 11 refl (one 10 refl (both 3 17 refl refl refl)) (one 12 refl (both 3 13 refl refl (one 14 refl (both 15 16 refl refl refl)))))
are_laid type_path_segment =
    one 18 refl (both 19 20 refl refl (both 21 22 refl (both 2 44 refl (both 3 4 refl refl refl) refl) (both 23 30 refl (both 2 24 refl (both 3 4 refl refl
    refl) (both 25 29 refl (both 26 27 refl refl (both 28 172 refl refl refl)) refl)) (one 34 refl refl))))
are_laid inputs = one 32 refl (both 33 194 refl refl refl)
are_laid less = one 35 refl (both 36 37 refl refl (both 38 43 refl (one 39 refl (one 40 refl (both 41 42 refl refl refl))) refl))
are_laid generic_arguments =
    one 45 refl (both 34 46 refl refl (both 47 54 refl (both 48 4 refl (both 55 49 refl refl (both 50 53 refl (one 51 refl (both 52 55 refl refl refl))
    (both 52 4 refl refl refl))) refl) refl))
are_laid generic_argument =
    one 56 refl (both 57 61 refl (both 58 59 refl refl (one 60 refl (one 76 refl refl))) (both 62 59 refl (both 63 71 refl (both 17 64 refl refl (both 65 67
    refl (both 66 78 refl refl refl) (both 68 70 refl (both 69 299 refl refl refl) (both 7 164 refl refl refl)))) (both 72 73 refl refl (both 74 81 refl
    (both 75 132 refl (one 19 refl refl) refl) refl))) (one 60 refl (one 76 refl refl))))
are_laid generic_argument_end = one 77 refl (both 52 54 refl refl refl)
are_laid generic_argument_value = one 79 refl (both 72 80 refl refl (both 132 81 refl refl refl))
are_laid const_argument =
    one 82 refl (both 83 87 refl (both 84 86 refl (both 85 4 refl refl refl) refl) (both 88 92 refl (both 89 91 refl (both 90 4 refl refl refl) refl) (both
    93 94 refl refl refl)))
are_laid qualified_self =
    one 96 refl (both 34 97 refl refl (both 124 98 refl refl (both 99 102 refl (both 100 4 refl (both 101 0 refl refl refl) refl) (both 54 3 refl refl
    refl))))
are_laid expression_path = one 104 refl (both 105 106 refl (both 95 107 refl refl refl) (both 2 107 refl (both 3 4 refl refl refl) refl))
are_laid expression_path_segments = one 108 refl (both 113 109 refl refl (both 110 112 refl (one 111 refl (both 3 113 refl refl refl)) (one 3 refl refl)))
are_laid expression_path_segment =
    one 114 refl (both 19 115 refl refl (both 116 4 refl (both 117 118 refl (both 3 44 refl refl refl) (both 3 24 refl refl (both 25 29 refl (both 26 27
    refl refl (both 28 172 refl refl refl)) refl))) refl))
are_laid simple_path = one 120 refl (both 2 121 refl (both 3 4 refl refl refl) (both 19 122 refl refl (one 123 refl (both 3 19 refl refl refl))))
are_laid any_type =
    one 125 refl (both 126 128 refl (both 127 200 refl (both 214 321 refl refl refl) refl) (both 129 132 refl (both 268 130 refl refl (one 131 refl refl))
    refl))
are_laid type =
    one 133 refl (both 134 135 refl (both 0 164 refl refl refl) (both 136 143 refl (both 137 140 refl (both 138 139 refl refl refl) (both 301 141 refl refl
    (both 142 130 refl (one 332 refl refl) (one 131 refl refl)))) (both 144 147 refl (both 58 145 refl refl (both 146 200 refl (one 130 refl (one 131 refl
    refl)) refl)) (both 148 152 refl (both 149 200 refl (both 150 26 refl (both 151 146 refl refl (one 130 refl (one 131 refl refl))) refl) refl) (both 153
    156 refl (both 154 155 refl refl (both 0 200 refl refl refl)) (both 157 160 refl (both 349 158 refl refl (both 159 155 refl (both 254 130 refl refl (one
    131 refl refl)) (both 0 200 refl refl refl))) (both 161 163 refl (both 95 162 refl refl (both 5 130 refl refl (one 131 refl refl))) (both 223 130 refl
    refl (one 131 refl refl)))))))))
are_laid behind_type_path =
    one 165 refl (both 166 170 refl (both 167 168 refl refl (both 169 130 refl refl (one 131 refl refl))) (both 171 200 refl (one 167 refl refl) refl))
are_laid type_no_bounds =
    one 173 refl (both 174 177 refl (both 0 175 refl refl (both 176 171 refl (both 167 169 refl refl refl) (one 167 refl refl))) (both 223 178 refl refl
    (both 26 179 refl refl (both 180 183 refl (both 137 181 refl (both 138 139 refl refl refl) (both 182 142 refl (both 303 130 refl refl (one 131 refl
    refl)) (one 332 refl refl))) (both 184 185 refl (both 95 5 refl refl refl) (both 186 188 refl (both 349 187 refl refl (both 254 0 refl refl refl)) (both
    189 190 refl (both 154 0 refl refl refl) (both 214 191 refl refl (both 321 192 refl refl (both 268 193 refl refl (both 58 146 refl refl (one 130 refl
    (one 131 refl refl)))))))))))))
are_laid types = one 195 refl (one 196 refl (both 124 197 refl refl (both 52 198 refl refl (one 199 refl refl))))
are_laid more_bounds =
    one 201 refl (both 202 204 refl (one 203 refl (both 131 303 refl refl refl)) (both 205 130 refl (both 131 4 refl refl refl) (one 131 refl refl)))
are_laid bare_bound =
    one 207 refl (both 208 211 refl (both 209 0 refl (both 210 4 refl (both 349 154 refl refl refl) refl) refl) (both 214 212 refl refl (both 321 213 refl
    refl refl)))
are_laid modified_path =
    one 215 refl (both 216 0 refl (both 217 222 refl (both 218 219 refl refl (both 85 220 refl refl (both 221 4 refl refl refl))) (both 85 221 refl refl
    refl)) refl)
are_laid plain_type =
    one 224 refl (both 167 225 refl refl (both 233 226 refl refl (both 227 228 refl refl (both 229 230 refl refl (both 243 231 refl refl (both 250 232 refl
    refl (both 254 213 refl refl refl)))))))
are_laid pointer_type = one 234 refl (both 16 235 refl refl (both 236 172 refl (both 85 237 refl refl refl) refl))
are_laid array_type = one 239 refl (both 124 240 refl refl (both 241 4 refl (both 242 531 refl refl refl) refl))
are_laid reference_type =
    one 244 refl (both 245 246 refl refl (both 247 248 refl (both 58 4 refl refl refl) (both 249 172 refl (both 237 4 refl refl refl) refl)))
are_laid binder_type = one 251 refl (both 252 253 refl refl (both 1310 124 refl refl refl))
are_laid function_type =
    one 255 refl (both 256 257 refl (both 252 4 refl refl refl) (both 258 263 refl (both 259 4 refl (both 260 261 refl refl (both 262 4 refl refl refl))
    refl) (both 264 265 refl refl (both 266 267 refl refl (both 27 4 refl (both 28 172 refl refl refl) refl)))))
are_laid generator_type = one 269 refl (both 220 270 refl (both 221 4 refl refl refl) (both 271 254 refl refl refl))
are_laid maybe_named_parameters =
    one 273 refl (both 274 278 refl (both 275 4 refl (both 276 277 refl (one 960 refl refl) (both 1143 197 refl refl (both 52 198 refl refl (one 199 refl
    refl)))) refl) (one 279 refl (both 280 197 refl refl (both 52 198 refl refl (one 199 refl refl)))))
are_laid maybe_named_parameter =
    one 281 refl (both 276 282 refl (one 960 refl refl) (both 283 284 refl (one 1143 refl refl) (both 285 297 refl (both 286 4 refl (both 287 69 refl (both
    288 290 refl (both 237 289 refl refl refl) (both 291 295 refl (both 292 4 refl (both 293 294 refl refl refl) refl) (both 19 296 refl refl (both 93 229
    refl refl refl)))) refl) refl) (both 298 124 refl refl refl))))
are_laid bounds = one 300 refl (both 301 4 refl refl refl)
are_laid some_bounds =
    one 302 refl (both 303 201 refl refl (both 202 204 refl (one 203 refl (both 131 303 refl refl refl)) (both 205 130 refl (both 131 4 refl refl refl) (one
    131 refl refl))))
are_laid bound = one 304 refl (both 58 305 refl refl (both 306 307 refl refl (both 321 308 refl refl refl)))
are_laid trait_bound =
    one 309 refl (both 310 312 refl (both 311 0 refl (both 154 167 refl refl refl) refl) (both 313 314 refl (both 349 4 refl refl refl) (both 315 320 refl
    (both 316 4 refl (both 317 318 refl (both 218 85 refl refl refl) (both 319 85 refl refl refl)) refl) (both 220 0 refl (both 221 4 refl refl refl)
    refl))))
are_laid use_bound =
    one 322 refl (both 323 324 refl refl (both 43 325 refl refl (both 326 54 refl (both 327 4 refl (both 358 328 refl refl (both 329 53 refl (one 330 refl
    (both 52 358 refl refl refl)) (both 52 4 refl refl refl))) refl) refl)))
are_laid maybe_const = one 85 refl refl
are_laid begins_bound =
    one 333 refl (both 58 334 refl refl (both 335 336 refl refl (both 337 338 refl refl (both 323 339 refl refl (both 340 341 refl refl (both 218 342 refl
    refl (both 85 343 refl refl (both 221 344 refl refl (both 154 345 refl refl (both 167 346 refl refl (both 19 347 refl refl (both 3 348 refl refl (both
    36 41 refl refl refl)))))))))))))
are_laid for_lifetimes = one 350 refl (both 340 1310 refl refl refl)
are_laid lifetime_parameter =
    one 352 refl (both 58 353 refl refl (both 354 4 refl (both 69 355 refl refl (both 356 247 refl (one 357 refl (both 58 131 refl refl refl)) (both 58 4
    refl refl refl))) refl))
are_laid use_argument = one 359 refl (both 58 360 refl refl (both 289 361 refl refl refl))
are_laid pattern_fragment = one 363 refl (both 364 369 refl (one 365 refl (both 366 167 refl refl refl)) refl)
are_laid pattern_param_fragment = one 368 refl (both 364 385 refl (one 365 refl (both 366 167 refl refl refl)) refl)
are_laid pattern =
    one 370 refl (both 371 373 refl (both 372 4 refl refl refl) (both 385 374 refl refl (both 375 379 refl (one 376 refl (both 372 377 refl refl (both 378
    385 refl (one 372 refl refl) refl))) (one 380 refl (both 381 382 refl refl (both 383 384 refl refl refl))))))
are_laid pattern_no_top_alt =
    one 386 refl (both 387 388 refl (both 366 471 refl refl refl) (both 389 391 refl (both 33 390 refl refl (both 471 4 refl refl refl)) (both 392 396 refl
    (both 89 393 refl (both 90 4 refl refl refl) (both 394 395 refl (both 91 93 refl refl refl) (both 462 4 refl refl refl))) (both 501 397 refl refl (both
    229 398 refl refl (both 167 399 refl refl (both 504 400 refl refl (both 401 402 refl refl (both 403 404 refl refl (both 405 407 refl (both 406 462 refl
    refl refl) (both 408 409 refl refl (both 410 412 refl (both 411 419 refl refl refl) (both 413 416 refl (both 95 414 refl refl (both 107 415 refl refl
    (both 462 475 refl refl refl))) (both 2 417 refl (both 3 4 refl refl refl) (both 107 418 refl refl (both 176 415 refl (both 167 169 refl refl refl)
    (both 462 475 refl refl refl)))))))))))))))))
are_laid pattern_without_range =
    one 420 refl (both 421 423 refl (both 89 422 refl (both 90 4 refl refl refl) (both 394 466 refl (both 91 93 refl refl refl) refl)) (both 501 424 refl
    refl (both 229 425 refl refl (both 167 426 refl refl (both 504 427 refl refl (both 401 428 refl refl (both 403 429 refl refl (both 430 432 refl (both
    406 431 refl refl (both 298 471 refl refl refl)) (both 433 435 refl (both 408 434 refl refl (one 468 refl refl)) (both 410 436 refl (both 411 419 refl
    refl refl) (both 437 442 refl (both 95 438 refl refl (both 107 439 refl refl (both 401 440 refl refl (both 441 466 refl refl refl)))) (both 443 446 refl
    (both 2 444 refl (both 3 4 refl refl refl) (both 107 445 refl refl (both 176 439 refl (both 167 169 refl refl refl) (both 401 440 refl refl (both 441
    466 refl refl refl))))) (both 33 447 refl refl (one 448 refl (both 90 449 refl refl (both 91 450 refl refl (both 451 452 refl refl (both 289 453 refl
    refl (both 36 454 refl refl (both 41 3 refl refl refl))))))))))))))))))))
are_laid patterns =
    one 456 refl (one 457 refl (both 369 458 refl refl (both 459 197 refl (both 460 4 refl (both 461 531 refl refl refl) refl) (both 52 198 refl refl (one
    199 refl refl)))))
are_laid range_tail =
    one 463 refl (both 464 389 refl (both 465 471 refl (both 366 298 refl refl refl) refl) (both 33 390 refl refl (both 471 4 refl refl refl)))
are_laid old_range_tail = one 467 refl (both 431 434 refl (both 298 471 refl refl refl) (one 468 refl refl))
are_laid range_operator = one 469 refl (both 366 470 refl refl (both 298 33 refl refl refl))
are_laid range_end =
    one 472 refl (both 473 474 refl (both 89 394 refl (both 90 4 refl refl refl) (both 91 93 refl refl refl)) (both 103 406 refl refl refl))
are_laid fields = one 476 refl (both 477 4 refl (both 401 441 refl refl refl) refl)
are_laid struct_pattern_elements =
    one 479 refl (both 480 482 refl (one 481 refl (both 484 197 refl refl (both 52 198 refl refl (one 199 refl refl)))) (both 483 4 refl (both 276 33 refl
    (one 960 refl refl) refl) refl))
are_laid struct_pattern_field =
    one 485 refl (both 276 486 refl (one 960 refl refl) (both 487 490 refl (both 500 488 refl refl (both 69 489 refl refl (both 369 459 refl refl (both 460
    4 refl (both 461 531 refl refl refl) refl)))) refl))
are_laid field_pattern =
    one 491 refl (both 492 493 refl (both 411 4 refl refl refl) (both 249 494 refl (both 237 4 refl refl refl) (both 495 498 refl (both 496 4 refl (both 497
    249 refl refl (both 237 4 refl refl refl)) refl) (both 289 499 refl refl refl))))
are_laid field_name = one 498 refl (both 289 499 refl refl refl)
are_laid reference_pattern = one 502 refl (both 245 503 refl refl (both 249 419 refl (both 237 4 refl refl refl) refl))
are_laid identifier_pattern =
    one 505 refl (both 506 510 refl (both 497 507 refl refl (both 249 508 refl (both 237 4 refl refl refl) (both 289 509 refl refl (both 525 4 refl refl
    refl)))) (both 511 518 refl (both 237 512 refl refl (both 495 513 refl (both 496 4 refl (both 497 249 refl refl (both 237 4 refl refl refl)) refl) (both
    289 514 refl refl (both 515 509 refl (one 516 refl (both 3 517 refl refl (both 335 15 refl refl refl))) (both 525 4 refl refl refl))))) (both 289 519
    refl refl (both 520 509 refl (one 521 refl (both 3 522 refl refl (both 176 523 refl (both 167 169 refl refl refl) (both 335 524 refl refl (both 15 468
    refl refl refl))))) (both 525 4 refl refl refl)))))
are_laid binding = one 526 refl (both 384 385 refl refl refl)
are_laid expression_2021_fragment = one 528 refl (both 529 531 refl (one 530 refl (both 229 85 refl refl refl)) refl)
are_laid expression = one 532 refl (both 551 533 refl refl (both 575 537 refl refl refl))
are_laid expression_before_block = one 535 refl (both 562 536 refl refl (both 587 545 refl refl refl))
are_laid behind_operation =
    one 538 refl (both 539 542 refl (one 540 refl (both 541 531 refl refl refl)) (both 543 544 refl (one 541 refl refl) (both 551 434 refl refl (one 468
    refl refl))))
are_laid behind_operation_before_block =
    one 546 refl (both 547 549 refl (one 548 refl (both 541 534 refl refl refl)) (both 543 550 refl (one 541 refl refl) (both 562 434 refl refl (one 468
    refl refl))))
are_laid range =
    one 552 refl (both 553 557 refl (both 366 554 refl refl (both 555 556 refl (one 229 refl refl) (both 551 575 refl refl refl))) (both 33 558 refl refl
    (both 559 561 refl (both 560 556 refl (one 561 refl (one 953 refl refl)) (both 551 575 refl refl refl)) (one 953 refl refl))))
are_laid range_before_block =
    one 563 refl (both 564 569 refl (both 366 565 refl refl (both 566 568 refl (one 567 refl (both 15 229 refl refl refl)) (both 562 587 refl refl refl)))
    (both 33 570 refl refl (both 571 573 refl (both 572 568 refl (one 573 refl (one 574 refl refl)) (both 562 587 refl refl refl)) (one 574 refl refl))))
are_laid operation =
    one 576 refl (both 276 577 refl (one 960 refl refl) (both 600 578 refl refl (both 579 584 refl (one 580 refl (both 581 583 refl (both 582 594 refl refl
    refl) (both 101 172 refl refl refl))) (both 585 586 refl (one 582 refl refl) (one 101 refl refl)))))
are_laid operation_before_block =
    one 588 refl (both 276 589 refl (one 960 refl refl) (both 614 590 refl refl (both 591 584 refl (one 592 refl (both 593 583 refl (both 582 597 refl refl
    refl) (both 101 172 refl refl refl))) (both 585 586 refl (one 582 refl refl) (one 101 refl refl)))))
are_laid operand = one 595 refl (both 551 596 refl refl (both 276 600 refl (one 960 refl refl) refl))
are_laid operand_before_block = one 598 refl (both 562 599 refl refl (both 276 614 refl (one 960 refl refl) refl))
are_laid unary =
    one 601 refl (both 602 608 refl (both 603 604 refl (one 75 refl (one 19 refl refl)) (both 731 605 refl refl (both 606 607 refl (one 633 refl refl) (one
    661 refl refl)))) (both 75 609 refl (one 19 refl refl) (both 610 611 refl (both 624 595 refl refl (both 551 596 refl refl (both 276 600 refl (one 960
    refl refl) refl))) (both 612 605 refl (both 663 613 refl refl (both 705 731 refl refl refl)) (both 606 607 refl (one 633 refl refl) (one 661 refl
    refl))))))
are_laid unary_before_block =
    one 615 refl (both 616 618 refl (both 603 617 refl (one 75 refl (one 19 refl refl)) (both 743 605 refl refl (both 606 607 refl (one 633 refl refl) (one
    661 refl refl)))) (both 75 619 refl (one 19 refl refl) (both 620 621 refl (both 624 598 refl refl (both 562 599 refl refl (both 276 614 refl (one 960
    refl refl) refl))) (both 622 605 refl (both 671 623 refl refl (both 721 743 refl refl refl)) (both 606 607 refl (one 633 refl refl) (one 661 refl
    refl))))))
are_laid unary_operator =
    one 625 refl (both 90 626 refl refl (both 167 627 refl refl (both 16 628 refl refl (both 245 629 refl refl (both 630 4 refl (both 631 237 refl (both 632
    236 refl refl (both 85 237 refl refl refl)) refl) refl)))))
are_laid postfix =
    one 634 refl (both 154 635 refl refl (both 636 637 refl refl (both 638 639 refl refl (both 640 641 refl refl (both 642 647 refl (both 643 645 refl (both
    644 323 refl refl refl) (both 646 4 refl refl refl)) (both 648 649 refl refl (both 650 653 refl (both 651 652 refl refl refl) (both 654 499 refl (both
    19 655 refl refl (both 656 658 refl (both 3 657 refl refl (both 44 636 refl refl refl)) (one 659 refl (both 3 660 refl refl (both 34 335 refl refl
    refl))))) refl))))))))
are_laid bad_postfix = one 662 refl (both 640 42 refl refl refl)
are_laid closure =
    one 664 refl (both 675 665 refl refl (both 666 669 refl (both 28 667 refl refl (both 172 668 refl refl refl)) (both 670 531 refl (one 28 refl refl)
    refl)))
are_laid closure_before_block =
    one 672 refl (both 675 673 refl refl (both 666 674 refl (both 28 667 refl refl (both 172 668 refl refl refl)) (both 670 534 refl (one 28 refl refl)
    refl)))
are_laid closure_head =
    one 676 refl (both 313 677 refl (both 349 4 refl refl refl) (both 678 687 refl (both 679 4 refl (both 85 680 refl refl (one 681 refl (one 682 refl (both
    683 684 refl refl (both 685 686 refl refl (both 383 372 refl refl refl)))))) refl) (both 688 689 refl (both 683 4 refl refl refl) (both 220 690 refl
    (both 221 4 refl refl refl) (both 691 692 refl (both 685 4 refl refl refl) (both 383 693 refl refl (both 372 694 refl refl (both 695 372 refl (both 696
    4 refl (both 700 697 refl refl (both 698 53 refl (one 699 refl (both 52 700 refl refl refl)) (both 52 4 refl refl refl))) refl) refl))))))))
are_laid closure_parameter =
    one 701 refl (both 276 702 refl (one 960 refl refl) (both 385 703 refl refl (both 704 4 refl (both 69 124 refl refl refl) refl)))
are_laid jump =
    one 706 refl (both 707 719 refl (both 708 717 refl (both 709 710 refl refl (both 648 711 refl refl (both 712 715 refl (both 713 714 refl refl refl)
    (both 716 247 refl refl (both 58 4 refl refl refl))))) (both 718 561 refl (both 560 531 refl (one 561 refl (one 953 refl refl)) refl) (one 953 refl
    refl))) (both 720 247 refl refl (both 58 4 refl refl refl)))
are_laid jump_before_block =
    one 722 refl (both 723 726 refl (both 724 717 refl (both 709 725 refl refl (both 648 712 refl refl (both 713 714 refl refl refl))) (both 718 561 refl
    (both 560 531 refl (one 561 refl (one 953 refl refl)) refl) (one 953 refl refl))) (both 727 719 refl (both 716 728 refl refl (both 247 729 refl (both 58
    4 refl refl refl) (both 730 573 refl (both 572 531 refl (one 573 refl (one 574 refl refl)) refl) (one 574 refl refl)))) (both 720 247 refl refl (both 58
    4 refl refl refl))))
are_laid primary =
    one 732 refl (both 751 733 refl refl (both 734 740 refl (both 2 735 refl (both 3 4 refl refl refl) (both 107 736 refl refl (both 176 737 refl (both 167
    169 refl refl refl) (both 171 738 refl (one 167 refl refl) (both 739 4 refl refl refl))))) (both 785 741 refl refl (both 95 742 refl refl (both 107 737
    refl refl (both 171 738 refl (one 167 refl refl) (both 739 4 refl refl refl)))))))
are_laid primary_before_block =
    one 744 refl (both 756 745 refl refl (both 746 748 refl (both 2 747 refl (both 3 4 refl refl refl) (both 107 175 refl refl (both 176 171 refl (both 167
    169 refl refl refl) (one 167 refl refl)))) (both 785 749 refl refl (both 95 750 refl refl (both 107 171 refl refl (one 167 refl refl))))))
are_laid variable = one 752 refl (both 19 753 refl refl (one 754 refl (both 3 755 refl refl (both 167 15 refl refl refl))))
are_laid variable_before_block = one 757 refl (both 19 758 refl refl (one 759 refl (both 3 167 refl refl refl)))
are_laid expressions = one 761 refl (one 762 refl (both 531 197 refl refl (both 52 198 refl refl (one 199 refl refl))))
are_laid some_expressions = one 764 refl (both 765 760 refl (one 198 refl (one 199 refl refl)) refl)
are_laid array_elements =
    one 767 refl (both 768 4 refl (both 531 769 refl refl (both 241 770 refl (both 242 531 refl refl refl) (both 771 198 refl (both 52 760 refl refl refl)
    (one 199 refl refl)))) refl)
are_laid struct_expression_fields =
    one 773 refl (both 774 776 refl (one 775 refl (both 779 197 refl refl (both 52 198 refl refl (one 199 refl refl)))) (both 777 4 refl (both 33 778 refl
    refl (both 531 4 refl refl refl)) refl))
are_laid struct_expression_field =
    one 780 refl (both 276 781 refl (one 960 refl refl) (both 782 784 refl (both 500 783 refl refl (both 69 531 refl refl refl)) refl))
are_laid field_value = one 289 refl refl
are_laid basic =
    one 786 refl (both 91 787 refl refl (both 93 788 refl refl (both 636 789 refl refl (both 790 791 refl refl (both 86 792 refl refl (both 793 794 refl
    refl (both 229 795 refl refl refl)))))))
are_laid block_like =
    one 796 refl (both 797 799 refl (both 798 86 refl refl refl) (both 800 812 refl (both 461 801 refl refl (both 844 802 refl refl (both 668 803 refl refl
    (both 804 811 refl (both 805 4 refl (both 806 807 refl refl (both 668 808 refl refl (both 809 795 refl (one 810 refl (one 461 refl refl)) refl))) refl)
    (one 806 refl refl))))) (both 813 815 refl (both 651 814 refl refl (both 534 652 refl refl refl)) (both 816 817 refl (both 252 86 refl refl refl) (both
    818 822 refl (both 819 821 refl (both 820 221 refl (both 220 271 refl (both 221 4 refl refl refl) refl) refl) (both 691 86 refl (both 685 4 refl refl
    refl) refl)) (both 823 824 refl (both 85 86 refl refl refl) (both 829 825 refl refl (both 827 826 refl refl (both 829 86 refl refl refl)))))))))
are_laid label = one 828 refl (both 58 69 refl refl refl)
are_laid loop =
    one 830 refl (both 831 833 refl (both 832 86 refl refl refl) (both 834 837 refl (both 835 836 refl refl (both 844 86 refl refl refl)) (both 340 838 refl
    refl (both 839 840 refl (both 644 4 refl refl refl) (both 369 841 refl refl (both 842 843 refl refl (both 534 86 refl refl refl)))))))
are_laid conditions =
    one 845 refl (both 562 846 refl refl (both 866 847 refl refl (both 276 848 refl (one 960 refl refl) (both 614 849 refl refl (both 850 858 refl (one 851
    refl (both 852 583 refl (both 853 854 refl (one 383 refl refl) (both 582 855 refl refl (both 856 597 refl (one 857 refl refl) refl))) (both 101 172 refl
    refl refl))) (both 859 860 refl (both 294 866 refl refl refl) (both 861 864 refl (both 862 4 refl (both 383 863 refl refl (both 597 591 refl refl (one
    592 refl (both 593 583 refl (both 582 597 refl refl refl) (both 101 172 refl refl refl))))) refl) (both 585 865 refl (one 582 refl refl) (both 586 545
    refl (one 101 refl refl) refl)))))))))
are_laid let_chain =
    one 867 refl (both 873 868 refl refl (both 869 872 refl (one 870 refl (both 294 871 refl refl (both 873 877 refl refl refl))) (one 951 refl refl)))
are_laid let_condition = one 874 refl (both 857 875 refl refl (both 369 876 refl refl (both 66 877 refl refl refl)))
are_laid let_value =
    one 878 refl (both 562 879 refl refl (both 276 880 refl (one 960 refl refl) (both 614 881 refl refl (both 882 885 refl (one 883 refl (both 884 583 refl
    (both 872 593 refl (one 951 refl refl) (both 582 597 refl refl refl)) (both 101 172 refl refl refl))) (both 886 586 refl (one 887 refl (both 872 582
    refl (one 951 refl refl) refl)) (one 101 refl refl))))))
are_laid match_arms = one 889 refl (both 890 891 refl (one 955 refl refl) (one 892 refl refl))
are_laid match_arm =
    one 893 refl (both 276 894 refl (one 960 refl refl) (both 369 895 refl refl (both 896 899 refl (both 461 897 refl refl (both 906 898 refl refl (both 900
    197 refl refl (both 52 198 refl refl (one 199 refl refl))))) (both 900 198 refl refl (one 199 refl refl)))))
are_laid arm_body =
    one 901 refl (both 902 903 refl refl (both 904 762 refl (both 276 905 refl (one 960 refl refl) (both 943 53 refl refl (both 52 4 refl refl refl))) (both
    531 197 refl refl (both 52 198 refl refl (one 199 refl refl)))))
are_laid guard =
    one 907 refl (both 551 908 refl refl (both 925 909 refl refl (both 276 910 refl (one 960 refl refl) (both 600 911 refl refl (both 912 917 refl (one 913
    refl (both 914 583 refl (both 853 915 refl (one 383 refl refl) (both 582 916 refl refl (both 856 594 refl (one 857 refl refl) refl))) (both 101 172 refl
    refl refl))) (both 918 919 refl (both 294 925 refl refl refl) (both 920 923 refl (both 921 4 refl (both 383 922 refl refl (both 594 579 refl refl (one
    580 refl (both 581 583 refl (both 582 594 refl refl refl) (both 101 172 refl refl refl))))) refl) (both 585 924 refl (one 582 refl refl) (both 586 537
    refl (one 101 refl refl) refl)))))))))
are_laid guard_chain =
    one 926 refl (both 931 927 refl refl (both 928 872 refl (one 929 refl (both 294 930 refl refl (both 931 935 refl refl refl))) (one 951 refl refl)))
are_laid guard_condition = one 932 refl (both 857 933 refl refl (both 369 934 refl refl (both 66 935 refl refl refl)))
are_laid guard_value =
    one 936 refl (both 551 937 refl refl (both 276 938 refl (one 960 refl refl) (both 600 939 refl refl (both 940 885 refl (one 941 refl (both 942 583 refl
    (both 872 581 refl (one 951 refl refl) (both 582 594 refl refl refl)) (both 101 172 refl refl refl))) (both 886 586 refl (one 887 refl (both 872 582
    refl (one 951 refl refl) refl)) (one 101 refl refl))))))
are_laid expression_with_block =
    one 944 refl (both 945 949 refl (both 86 946 refl refl (both 947 795 refl (one 948 refl (both 221 271 refl refl refl)) refl)) (one 950 refl (both 640
    154 refl refl refl)))
are_laid lazy_operator = one 952 refl (both 294 383 refl refl refl)
are_laid begins = one 954 refl (both 15 574 refl refl refl)
are_laid inner_attribute = one 956 refl (both 957 958 refl refl (both 167 959 refl refl refl))
are_laid attribute = one 961 refl (both 957 959 refl refl refl)
are_laid meta = one 963 refl (both 964 966 refl (both 252 965 refl refl refl) refl)
are_laid plain_meta = one 967 refl (both 119 968 refl refl (both 969 4 refl (both 169 970 refl refl (both 66 531 refl refl refl)) refl))
are_laid visibility = one 972 refl (both 973 4 refl (both 974 975 refl refl (both 976 4 refl refl refl)) refl)
are_laid visibility_place = one 978 refl (both 979 980 refl refl (both 981 982 refl refl (both 983 984 refl refl (both 842 119 refl refl refl))))
are_laid block = one 986 refl (both 890 987 refl (one 955 refl refl) refl)
are_laid statements =
    one 988 refl (one 989 refl (both 242 990 refl refl (both 1063 991 refl refl (both 992 995 refl (both 276 993 refl (one 960 refl refl) (both 994 1015
    refl (both 1003 242 refl refl refl) refl)) (both 531 996 refl refl (both 242 198 refl refl (one 199 refl refl)))))))
are_laid statement =
    one 998 refl (both 242 999 refl refl (both 1063 1000 refl refl (both 1001 531 refl (both 276 1002 refl (one 960 refl refl) (both 1003 1015 refl refl
    refl)) refl)))
are_laid let_statement =
    one 1004 refl (both 1005 1006 refl (both 983 4 refl refl refl) (both 857 1007 refl refl (both 385 1008 refl refl (both 379 1009 refl (one 380 refl (both
    381 382 refl refl (both 383 384 refl refl refl))) (both 703 1010 refl (both 704 4 refl (both 69 124 refl refl refl) refl) (both 1011 4 refl (both 66
    1012 refl refl (both 531 1013 refl refl (both 1014 4 refl (both 806 668 refl refl refl) refl))) refl))))))
are_laid closed_statement =
    one 1016 refl (both 1017 1022 refl (both 1018 1037 refl (one 1019 refl (both 1020 1021 refl refl refl)) refl) (both 943 1023 refl refl (both 2 1024 refl
    (both 3 4 refl refl refl) (both 107 1025 refl refl (both 167 1026 refl refl (both 15 949 refl refl (one 950 refl (both 640 154 refl refl refl))))))))
are_laid items = one 1028 refl (both 890 1029 refl (one 955 refl refl) (one 1030 refl refl))
are_laid item =
    one 1031 refl (both 1063 1032 refl refl (both 276 1033 refl (one 960 refl refl) (both 1037 1034 refl refl (both 1058 1035 refl refl (both 971 1036 refl
    refl (both 85 668 refl refl refl))))))
are_laid declaration =
    one 1038 refl (both 971 1039 refl refl (both 1040 1044 refl (both 1020 1041 refl refl (both 1127 1042 refl refl (both 1114 1043 refl refl (both 1184
    1286 refl refl refl)))) refl))
are_laid item_kind =
    one 1045 refl (both 1127 1046 refl refl (both 1076 1047 refl refl (both 1093 1048 refl refl (both 1103 1049 refl refl (both 1114 1050 refl refl (both
    1163 1051 refl refl (both 1170 1052 refl refl (both 1184 1053 refl refl (both 1195 1054 refl refl (both 1240 1055 refl refl (both 1257 1056 refl refl
    (both 1263 1057 refl refl (both 1279 1070 refl refl refl)))))))))))))
are_laid macro_item = one 1059 refl (both 119 1060 refl refl (both 167 1061 refl refl (both 15 1062 refl refl (both 169 242 refl refl refl))))
are_laid macro_rules_item = one 1064 refl (both 276 1065 refl (one 960 refl refl) refl)
are_laid macro_rules =
    one 1066 refl (both 1067 1068 refl refl (both 167 1069 refl refl (both 289 1061 refl refl (both 15 1062 refl refl (both 169 242 refl refl refl)))))
are_laid macro_definition = one 1071 refl (both 1072 1073 refl refl (both 289 1074 refl refl (both 1075 15 refl (both 335 4 refl refl refl) refl)))
are_laid use_declaration = one 1077 refl (both 323 1078 refl refl (both 1082 242 refl refl refl))
are_laid use_trees = one 1080 refl (one 1081 refl (both 1082 197 refl refl (both 52 198 refl refl (one 199 refl refl))))
are_laid use_tree =
    one 1083 refl (both 2 1084 refl (both 3 4 refl refl refl) (both 1085 1086 refl refl (both 16 1087 refl refl (both 19 1088 refl refl (both 122 1089 refl
    (one 123 refl (both 3 19 refl refl refl)) (both 1090 4 refl (both 1091 1100 refl (both 3 1092 refl refl (both 1085 16 refl refl refl)) refl) refl))))))
are_laid extern_crate =
    one 1094 refl (both 260 1095 refl refl (both 979 1096 refl refl (both 1097 1098 refl (both 289 981 refl refl refl) (both 1099 242 refl (both 1100 4 refl
    refl refl) refl))))
are_laid rename = one 1101 refl (both 101 1102 refl refl (both 289 229 refl refl refl))
are_laid static_item =
    one 1104 refl (both 1105 1107 refl (both 1106 4 refl (both 252 1021 refl refl refl) refl) (both 683 1108 refl refl (both 249 1109 refl (both 237 4 refl
    refl refl) (both 289 1110 refl refl (both 69 1111 refl refl (both 124 1112 refl refl (both 1113 242 refl (both 970 4 refl (both 66 531 refl refl refl)
    refl) refl)))))))
are_laid constant_item =
    one 1115 refl (both 1116 1118 refl (both 1117 4 refl refl refl) (both 85 1119 refl refl (both 1102 1120 refl (both 289 229 refl refl refl) (both 1121
    1122 refl (both 1310 4 refl refl refl) (both 69 1123 refl refl (both 124 1124 refl refl (both 1113 1125 refl (both 970 4 refl (both 66 531 refl refl
    refl) refl) (both 1126 242 refl (both 1333 4 refl refl refl) refl))))))))
are_laid function =
    one 1128 refl (both 1157 1129 refl refl (both 264 1130 refl refl (both 289 1131 refl refl (both 1121 1132 refl (both 1310 4 refl refl refl) (both 1133
    1134 refl refl (both 1135 1137 refl (both 1136 4 refl (both 28 124 refl refl refl) refl) (both 1126 1138 refl (both 1333 4 refl refl refl) (both 86 242
    refl refl refl))))))))
are_laid function_parameters =
    one 1140 refl (both 274 1141 refl (both 275 4 refl (both 276 277 refl (one 960 refl refl) (both 1143 197 refl refl (both 52 198 refl refl (one 199 refl
    refl)))) refl) (one 1142 refl (both 1151 197 refl refl (both 52 198 refl refl (one 199 refl refl)))))
are_laid self_parameter =
    one 1144 refl (both 1145 112 refl (both 1146 1149 refl (both 245 1147 refl refl (both 247 1148 refl (both 58 4 refl refl refl) (both 249 981 refl (both
    237 4 refl refl refl) refl))) (both 249 1150 refl (both 237 4 refl refl refl) (both 981 703 refl refl (both 704 4 refl (both 69 124 refl refl refl)
    refl)))) (one 3 refl refl))
are_laid function_parameter =
    one 1152 refl (both 276 1153 refl (one 960 refl refl) (both 298 1154 refl refl (both 283 1155 refl (one 1143 refl refl) (both 385 1156 refl refl (both
    69 297 refl refl (both 298 124 refl refl refl))))))
are_laid function_qualifiers =
    one 1158 refl (both 84 1159 refl (both 85 4 refl refl refl) (both 220 1160 refl (both 221 4 refl refl refl) (both 1161 1162 refl (both 271 4 refl refl
    refl) (both 1105 258 refl (both 1106 4 refl (both 252 1021 refl refl refl) refl) (both 259 4 refl (both 260 261 refl refl (both 262 4 refl refl refl))
    refl)))))
are_laid module_item =
    one 1164 refl (both 256 1165 refl (both 252 4 refl refl refl) (both 1166 1167 refl refl (both 289 1168 refl refl (both 1169 242 refl refl refl))))
are_laid extern_block =
    one 1171 refl (both 256 1172 refl (both 252 4 refl refl refl) (both 260 1173 refl refl (both 261 1174 refl (both 262 4 refl refl refl) refl)))
are_laid external_items = one 1176 refl (both 890 1177 refl (one 955 refl refl) (one 1178 refl refl))
are_laid external_item =
    one 1179 refl (both 276 1180 refl (one 960 refl refl) (both 1181 1058 refl (both 971 1182 refl refl (both 1127 1183 refl refl (both 1103 1184 refl refl
    refl))) refl))
are_laid type_alias =
    one 1185 refl (both 1117 1186 refl refl (both 289 1187 refl refl (both 1121 1188 refl (both 1310 4 refl refl refl) (both 1189 1190 refl (both 68 4 refl
    (both 69 299 refl refl refl) refl) (both 1126 1191 refl (both 1333 4 refl refl refl) (both 1192 242 refl (both 1193 4 refl (both 66 1194 refl refl (both
    124 1126 refl refl (both 1333 4 refl refl refl))) refl) refl))))))
are_laid structure =
    one 1196 refl (both 1197 1198 refl refl (both 289 1199 refl refl (both 1121 1200 refl (both 1310 4 refl refl refl) (both 1201 1203 refl (both 1202 1125
    refl refl (both 1126 242 refl (both 1333 4 refl refl refl) refl)) (both 1126 1204 refl (both 1333 4 refl refl refl) (both 1205 242 refl refl refl))))))
are_laid struct_fields = one 1207 refl (one 1208 refl (both 1209 197 refl refl (both 52 198 refl refl (one 199 refl refl))))
are_laid struct_field =
    one 1210 refl (both 276 1211 refl (one 960 refl refl) (both 971 1212 refl refl (both 256 1213 refl (both 252 4 refl refl refl) (both 289 1214 refl refl
    (both 69 1215 refl refl (both 124 1113 refl refl (both 970 4 refl (both 66 531 refl refl refl) refl)))))))
are_laid tuple_fields = one 1217 refl (one 1218 refl (both 1219 197 refl refl (both 52 198 refl refl (one 199 refl refl))))
are_laid tuple_field =
    one 1220 refl (both 276 1221 refl (one 960 refl refl) (both 1222 1113 refl (both 1223 124 refl (both 974 1224 refl refl (both 1225 1231 refl (both 976
    1226 refl refl (both 1227 124 refl (one 1228 refl (both 52 1229 refl refl (both 131 1230 refl refl (both 66 198 refl refl (one 199 refl refl))))) refl))
    (both 1232 124 refl (both 1233 130 refl refl (one 131 refl refl)) refl))) refl) (both 970 4 refl (both 66 531 refl refl refl) refl)))
are_laid types_behind_pub =
    one 1235 refl (both 1236 194 refl (one 1237 refl (both 1238 198 refl (both 979 1239 refl refl (both 981 983 refl refl refl)) (one 199 refl refl))) refl)
are_laid enumeration =
    one 1241 refl (both 1242 1243 refl refl (both 289 1244 refl refl (both 1121 1245 refl (both 1310 4 refl refl refl) (both 1126 1246 refl (both 1333 4
    refl refl refl) refl))))
are_laid enum_variants = one 1248 refl (one 1249 refl (both 1250 197 refl refl (both 52 198 refl refl (one 199 refl refl))))
are_laid enum_variant =
    one 1251 refl (both 276 1252 refl (one 960 refl refl) (both 971 1253 refl refl (both 289 1254 refl refl (both 1255 1113 refl (both 1256 4 refl (both
    1202 1205 refl refl refl) refl) (both 970 4 refl (both 66 531 refl refl refl) refl)))))
are_laid union =
    one 1258 refl (both 1259 1260 refl refl (both 289 1261 refl refl (both 1121 1262 refl (both 1310 4 refl refl refl) (both 1126 1205 refl (both 1333 4
    refl refl refl) refl))))
are_laid trait =
    one 1264 refl (both 84 1265 refl (both 85 4 refl refl refl) (both 256 1266 refl (both 252 4 refl refl refl) (both 1267 1269 refl (both 1268 4 refl refl
    refl) (both 1270 1271 refl refl (both 289 1272 refl refl (both 1121 1273 refl (both 1310 4 refl refl refl) (both 1274 1277 refl (both 1189 1275 refl
    (both 68 4 refl (both 69 299 refl refl refl) refl) (both 1126 1276 refl (both 1333 4 refl refl refl) refl)) (both 66 1278 refl refl (both 299 1125 refl
    refl (both 1126 242 refl (both 1333 4 refl refl refl) refl))))))))))
are_laid implementation =
    one 1280 refl (both 1286 1281 refl refl (both 84 1282 refl (both 85 4 refl refl refl) (both 139 1283 refl refl (both 1121 1284 refl (both 1310 4 refl
    refl refl) (both 84 1285 refl (both 85 4 refl refl refl) (both 132 1275 refl refl (both 1126 1276 refl (both 1333 4 refl refl refl) refl)))))))
are_laid trait_implementation =
    one 1287 refl (both 1288 1290 refl (both 1289 4 refl (both 85 252 refl refl refl) refl) (both 139 1291 refl refl (both 1121 1292 refl (both 1310 4 refl
    refl refl) (both 84 1293 refl (both 85 4 refl refl refl) (both 1294 1295 refl (both 167 4 refl refl refl) (both 0 1296 refl refl (both 340 1297 refl
    refl (both 1298 1275 refl (both 33 124 refl refl refl) (both 1126 1276 refl (both 1333 4 refl refl refl) refl)))))))))
are_laid associated_items = one 1300 refl (both 890 1301 refl (one 955 refl refl) (one 1302 refl refl))
are_laid associated_item =
    one 1303 refl (both 276 1304 refl (one 960 refl refl) (both 1305 1058 refl (both 971 1306 refl refl (both 1307 1308 refl (both 1020 4 refl refl refl)
    (both 1127 1309 refl refl (both 1114 1184 refl refl refl)))) refl))
are_laid generic_parameters =
    one 1311 refl (both 36 1312 refl refl (both 1313 54 refl (both 1314 4 refl (both 1318 1315 refl refl (both 1316 53 refl (one 1317 refl (both 52 1318
    refl refl refl)) (both 52 4 refl refl refl))) refl) refl))
are_laid generic_parameter =
    one 1319 refl (both 276 1320 refl (one 960 refl refl) (both 351 1321 refl refl (both 1322 1329 refl (both 85 1323 refl refl (both 289 1324 refl refl
    (both 69 1325 refl refl (both 124 1326 refl refl (both 1327 4 refl (both 66 1328 refl refl (both 81 289 refl refl refl)) refl))))) (both 289 1330 refl
    refl (both 1189 1331 refl (both 68 4 refl (both 69 299 refl refl refl) refl) (both 1332 4 refl (both 66 124 refl refl refl) refl))))))
are_laid where_clause =
    one 1334 refl (both 1335 1336 refl refl (both 1337 1340 refl (one 1338 refl (both 34 1339 refl refl (both 360 54 refl (both 289 361 refl refl refl)
    refl))) (both 1341 4 refl (both 1345 1342 refl refl (both 1343 53 refl (one 1344 refl (both 52 1345 refl refl refl)) (both 52 4 refl refl refl)))
    refl)))
are_laid where_predicate =
    one 1346 refl (both 1347 1348 refl (both 58 354 refl refl (both 69 355 refl refl (both 356 247 refl (one 357 refl (both 58 131 refl refl refl)) (both 58
    4 refl refl refl)))) (both 313 1349 refl (both 349 4 refl refl refl) (both 132 1350 refl refl (both 68 1351 refl (both 69 299 refl refl refl) (both 1352
    124 refl (both 66 1353 refl refl refl) refl)))))
are_laid tokens =
    one 1355 refl (one 1356 refl (both 1367 1357 refl refl (both 1358 1359 refl (both 119 176 refl refl (both 167 169 refl refl refl)) (both 1360 1361 refl
    refl (both 1362 1363 refl refl (both 1364 1365 refl refl (both 1366 199 refl refl refl)))))))
are_laid loose_macro_rules_item = one 1368 refl (both 1369 1065 refl (one 1370 refl (both 957 337 refl refl refl)) refl)
